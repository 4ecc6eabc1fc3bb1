-- What a rule makes of a call was asked for as the call was, keeps its working LSP, and moves as told there.
use Rattle.std.proofs.Common.{◌≡◌, inl, inr, ◌+◌, Bool, true, false, List, refl, subst, sym, ◌∙◌}
use Rattle.std.specs.Prelude.{Some, None}
use Rattle.ason_base.specs.{declared.calls.CallState.TheVariants.{Stuck, Turned}, declared.calls.Cause.TheVariants.{BackDown, Code, Full, NoBackup, Spent}, declared.calls.Cause.Cause, declared.ids.Fibre.Fibre, declared.ids.LinkId.LinkId, declared.ids.Lsp.Lsp, declared.ids.NodeId.NodeId, declared.tables.CallRec.CallRec, declared.tables.Leg.Leg, declared.tables.Out.Out, Codes.{busy_code, label_code}, Lsps.is_lsp}
use Rattle.ason_base.proofs.Bools.{or-rest}
use Rattle.mesh_rules.specs.{Calls.{bare, guarded, is_pairing, is_stuck, is_turned, is_turning, names, pairing, stuck, turned, turning, unbacked}, Legs.{find_leg, previous}, LocalNodes.LocalNode, Pairs.{beside_lsp, route_from}, Reports.{fibre_into, fibres_after, with_back_reports, with_report, with_work_reports}, State.NodeState, Turns.has_any}
use Rattle.mesh_nodes.proofs.Cases.{if_cases}
use Rattle.lsp_laws.specs.CallLaw.{is_unset}
use Rattle.lsp_laws.proofs.{nodes.CallMoves.{IsLone, IsSameCall, MayLeave, asking-lone, bare-lone, by-test, hit-guarded, moves-none, of-after, pairing-lone, reported-ticks, revised-call, still, to-bare, to-blocked, to-guarded, to-pairing, to-stuck, to-turned, to-turning, to-unbacked, waits-more, whole-turned}, nodes.CallWays.{Bares, CallBecomes, Blocks, ByReport, ByRetry, ByRevert, ByWait, Carries, Counts, Decides, Early, Fails, AtOnce, GoesBack, GoesDown, Guards, Hit, IsCallAlone, IsReportable, Lacks, LacksLabel, Late, LosesBackup, MayGoBy, MayTurnBy, Misses, Pairs, Reports, Stays, Turns, Way, Whole, is_lack}}

-- a call for which no backup is asked has none
alone-lone : (c : CallRec) → IsCallAlone c → IsLone c
alone-lone c (inl asking) = asking-lone c.state asking
alone-lone c (inr bare) = bare-lone c.state bare

lack-set : (cause : Cause) → is_lack cause ≡ true → is_unset cause ≡ false
lack-set NoBackup e = refl
lack-set Spent e = refl
lack-set Full e = refl
lack-set _ e = absurd (cc e)

module _ (Rep : Lsp → Fibre → Type 0) (p : LocalNode) (s : NodeState) (W : Way → Type 0) (T : List Out → Type 0)
    (rep : (g : Leg) (n : NodeId) (k : LinkId) (f : Fibre) → find_leg g.lsp s.legs ≡ Some g → previous g ≡ None →
    fibre_into (route_from p g) g.egress n k ≡ Some f → Rep g.lsp f) where
  -- a report changes no more of a call than its reports
  reported-same : (c : CallRec) (l : Lsp) (down : Bool) (f : Fibre) → names l c ≡ true → Rep l f →
      IsSameCall Rep c (with_report c l down f)
  reported-same c l down f named of =
      if_cases (IsSameCall Rep c) (is_lsp c.work l) (with_work_reports c (fibres_after down f c.work_reports))
      (with_back_reports c (fibres_after down f c.back_reports))
      (λ e. revised-call Rep c (with_work_reports c (fibres_after down f c.work_reports)) refl refl refl refl (record {
        number = refl;
        stands = λ x. x;
        back = λ x. (x, refl);
        tidy = λ h. record {
          cause = h.cause;
          ticks = reported-ticks c.ticks (is_turned c.state) (has_any c.work_reports)
              (has_any (fibres_after down f c.work_reports)) h.ticks;
          paired = h.paired;
        };
        told = λ h. record { work = of-after Rep c.work l down f c.work_reports e of h.work; back = h.back };
        turned = λ h. inl h;
        guarded = λ h. inl h;
      }))
      (λ e. revised-call Rep c (with_back_reports c (fibres_after down f c.back_reports)) refl refl refl refl (record {
        number = refl;
        stands = λ x. x;
        back = λ x. (x, refl);
        tidy = λ h. record { cause = h.cause; ticks = h.ticks; paired = h.paired };
        told = λ h. record {
          work = h.work;
          back = of-after Rep c.back l down f c.back_reports
              (or-rest (is_lsp c.work l) (is_lsp c.back l) e named) of h.back;
        };
        turned = λ h. inl h;
        guarded = λ h. inl h;
      }))

  reportable : (l : Lsp) (f : Fibre) → IsReportable p s l f → Rep l f
  reportable l f is = subst (λ k. Rep k f) is.of (rep is.leg is.at_node is.link f is.found is.first is.into)

  none : (c : CallRec) → IsSameCall Rep c c
  none c = revised-call Rep c c refl refl refl refl (moves-none Rep c)

  early-same : (c d : CallRec) → Early p s W c d → IsSameCall Rep c d
  early-same c _ (Guards e came) = revised-call Rep c (guarded c) refl refl refl refl (to-guarded Rep c (by-test c is_pairing refl refl e))
  early-same c _ (Carries e came) =
      revised-call Rep c (turned c) refl refl refl refl (to-turned Rep c (by-test c is_turning refl refl e))
  early-same c _ (Misses e came) =
      revised-call Rep c (stuck c (Code busy_code)) refl refl refl refl
      (to-stuck Rep c (Code busy_code) refl (by-test c is_turning refl refl e))
  early-same c _ (Reports l down f named of came) = reported-same c l down f named (reportable l f of)

  stuck-may : (d : CallRec) → d.state ≡ Stuck → MayLeave d
  stuck-may d is = by-test d is_stuck refl refl (subst (λ f. is_stuck f ≡ true) (sym is) refl)

  back-may : (d : CallRec) → d.state ≡ Turned → has_any d.work_reports ≡ false → MayLeave d
  back-may d is none = whole-turned d (λ e. (let never = sym is ∙ e in cc never)) none

  turn-may : (D : Type 0) (d : CallRec) → MayTurnBy W D d → MayLeave d
  turn-may D d (ByReport by is some) = hit-guarded d is some
  turn-may D d (ByRetry is came) = stuck-may d is

  go-may : (D : Type 0) (d : CallRec) → MayGoBy W D d → MayLeave d
  go-may D d (Whole by is none) = stuck-may d is
  go-may D d (Hit by is none some) = back-may d is none
  go-may D d (ByRevert is none came) = back-may d is none
  go-may D d (ByWait is none came) = back-may d is none

  late-same : (D : Type 0) (c d e : CallRec) → IsSameCall Rep c d → Late s W D d e → IsSameCall Rep c e
  late-same D c d _ same Stays = same
  late-same D c d _ same (Turns may) =
      still Rep c d (turning d) same refl refl refl refl refl (to-turning Rep d (turn-may D d may))
  late-same D c d _ same (Fails may b busy) =
      still Rep c d (stuck d (Code busy_code)) same refl refl refl refl refl
      (to-stuck Rep d (Code busy_code) refl (turn-may D d may))
  late-same D c d _ same (GoesDown by is works backs) =
      still Rep c d (stuck d BackDown) same refl refl refl refl refl
      (to-stuck Rep d BackDown refl (hit-guarded d is works))
  late-same D c d _ same (GoesBack may) =
      still Rep c d (guarded d) same refl refl refl refl refl (to-guarded Rep d (go-may D d may))

  -- whatever it makes of it
  pub becomes-same : (c d : CallRec) → CallBecomes p s W T c d → IsSameCall Rep c d
  becomes-same c e (Decides d early late) = late-same (Unit {0}) c d e (early-same c d early) late
  becomes-same c e (AtOnce late) = late-same ⊥ c c e (none c) late
  becomes-same c _ (Bares asking plain came) =
      revised-call Rep c (bare c) refl refl refl refl (to-bare Rep c (asking-lone c.state asking) plain)
  becomes-same c _ (Pairs w route out alone named is first sent) =
      revised-call Rep c (pairing c (beside_lsp w.lsp s.lsp)) refl refl refl refl
      (to-pairing Rep c (beside_lsp w.lsp s.lsp) (alone-lone c alone))
  becomes-same c _ (Lacks cause alone lack) =
      revised-call Rep c (unbacked c cause) refl refl refl refl
      (to-unbacked Rep c cause (lack-set cause lack) (alone-lone c alone))
  becomes-same c _ (LacksLabel alone) =
      revised-call Rep c (unbacked c (Code label_code)) refl refl refl refl
      (to-unbacked Rep c (Code label_code) refl (alone-lone c alone))
  becomes-same c _ (LosesBackup code pairing came) =
      revised-call Rep c (unbacked c (Code code)) refl refl refl refl
      (to-unbacked Rep c (Code code) refl (pairing-lone c.state pairing))
  becomes-same c _ (Blocks code asking came) = record {
    egress = refl;
    protected = refl;
    backup = refl;
    work = inr (refl, asking);
    moves = to-blocked Rep c (Code code) refl asking;
  }
  becomes-same c _ (Counts waits less came) =
      revised-call Rep c (record c { ticks = c.ticks + 1 }) refl refl refl refl (waits-more Rep c waits)
