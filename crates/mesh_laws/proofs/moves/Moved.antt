-- What a rule makes of a call has moved as the table says.
use Rattle.std.proofs.Common.{◌≡◌, inl, inr, ◌+◌, ℕ, Bool, true, false, nat_le, List, refl, subst}
use Rattle.ason_base.specs.{Codes.{busy_code, label_code}, Lsps.is_lsp, declared.calls.CallState.CallState, declared.calls.CallState.TheVariants.{Guarded, Stuck, Turned, Turning}, declared.calls.Cause.Cause, declared.calls.Cause.TheVariants.{BackDown, Code, Full, NoBackup, Spent, Unset}, declared.ids.Fibre.Fibre, declared.ids.Lsp.Lsp, declared.tables.CallRec.CallRec, declared.tables.Out.Out}
use Rattle.mesh_rules.specs.{Calls.is_turning, LocalNodes.LocalNode, Pairs.beside_lsp, Reports.{fibres_after, with_back_reports, with_report, with_work_reports}, State.NodeState, Turns.has_any}
use Rattle.mesh_nodes.proofs.Cases.{if_cases}
use Rattle.lsp_laws.proofs.nodes.CallWays.{Bares, CallBecomes, Blocks, ByReport, ByRetry, ByRevert, ByWait, Carries, Counts, Decides, Early, Fails, AtOnce, GoesBack, GoesDown, Guards, Hit, IsCallAlone, Lacks, LacksLabel, Late, LosesBackup, MayGoBy, MayTurnBy, Misses, Pairs, Reports, Stays, Turns, Way, Whole, is_lack}
use Rattle.mesh_laws.specs.MovesLaw.{may_move}
use Rattle.mesh_laws.proofs.{acts.Tests.any-some, moves.Moving.{MayAskBackup, IsMovedCall, MayDecide, MayTurnState, asking-lone, bare-lone, becomes, decides-in, is_down, kept-below, moves-none, pairing-lone, pairing-may, stays-in, to-bare, to-blocked, to-pairing, to-unbacked, turning-may, waits-more}}

alone-lone : (c : CallRec) → IsCallAlone c → MayAskBackup c
alone-lone c (inl asking) = asking-lone c.state asking
alone-lone c (inr bare) = bare-lone c.state bare

lack-up : (cause : Cause) → is_lack cause ≡ true → is_down cause ≡ false
lack-up NoBackup e = refl
lack-up Spent e = refl
lack-up Full e = refl
lack-up _ e = absurd (cc e)

module _ (wait : ℕ) (p : LocalNode) (s : NodeState) (W : Way → Type 0) (T : List Out → Type 0)
    (within : p.wait ≡ wait) where
  -- Before it is decided

  reported-same : (c : CallRec) (l : Lsp) (down : Bool) (f : Fibre) → IsMovedCall wait c (with_report c l down f)
  reported-same c l down f =
      if_cases (IsMovedCall wait c) (is_lsp c.work l) (with_work_reports c (fibres_after down f c.work_reports))
      (with_back_reports c (fibres_after down f c.back_reports))
      (λ e. record {
        number = refl;
        egress = refl;
        protected = refl;
        backup = refl;
        moves = stays-in c.state;
        blocked = λ e. refl;
        ticks = λ h. kept-below wait c.ticks (has_any (fibres_after down f c.work_reports)) h;
        down = λ e. inl e;
      })
      (λ e. record {
        number = refl;
        egress = refl;
        protected = refl;
        backup = refl;
        moves = stays-in c.state;
        blocked = λ e. refl;
        ticks = λ h. h;
        down = λ e. inl e;
      })

  reported-decides : (c : CallRec) (l : Lsp) (down : Bool) (f : Fibre) →
      MayDecide c.state (with_report c l down f).state
  reported-decides c l down f =
      if_cases (λ (d : CallRec). MayDecide c.state d.state) (is_lsp c.work l) _ _ (λ e. decides-in c.state)
      (λ e. decides-in c.state)

  turning-turns : (f : CallState) → is_turning f ≡ true → MayTurnState f
  turning-turns Turning e = (refl, refl)
  turning-turns _ e = absurd (cc e)

  early-same : (c d : CallRec) → Early p s W c d → IsMovedCall wait c d × MayDecide c.state d.state
  early-same c _ (Guards e came) = (
    becomes wait c c (moves-none wait c) Guarded Unset (pairing-may c.state e).0 refl (λ e. absurd (cc e)),
    (pairing-may c.state e).1,
  )
  early-same c _ (Carries e came) = (
    becomes wait c c (moves-none wait c) Turned Unset (turning-may c.state e).0 refl (λ e. absurd (cc e)),
    (turning-may c.state e).2,
  )
  early-same c _ (Misses e came) = (
    becomes wait c c (moves-none wait c) Stuck (Code busy_code) (turning-may c.state e).1 refl (λ e. absurd (cc e)),
    ((turning-may c.state e).2, turning-turns c.state e),
  )
  early-same c _ (Reports l down f named of came) = (reported-same c l down f, reported-decides c l down f)

  -- And then

  may-turn : (D : Type 0) (c d : CallRec) → MayDecide c.state d.state → MayTurnBy W D d → MayTurnState c.state
  may-turn D c d may (ByReport by is works) = subst (MayDecide c.state) is may
  may-turn D c d may (ByRetry is came) = (subst (MayDecide c.state) is may).1

  may-go : (D : Type 0) (c d : CallRec) → MayDecide c.state d.state → MayGoBy W D d → may_move c.state Guarded ≡ true
  may-go D c d may (Whole by is works) = (subst (MayDecide c.state) is may).0
  may-go D c d may (Hit by is works backs) = subst (MayDecide c.state) is may
  may-go D c d may (ByRevert is works came) = subst (MayDecide c.state) is may
  may-go D c d may (ByWait is works came) = subst (MayDecide c.state) is may

  late-same : (D : Type 0) (c d e : CallRec) → IsMovedCall wait c d → MayDecide c.state d.state → Late s W D d e → IsMovedCall wait c e
  late-same D c d _ same may Stays = same
  late-same D c d _ same may (Turns by) =
      becomes wait c d same Turning Unset (may-turn D c d may by).0 refl (λ e. absurd (cc e))
  late-same D c d _ same may (Fails by b busy) =
      becomes wait c d same Stuck (Code busy_code) (may-turn D c d may by).1 refl (λ e. absurd (cc e))
  late-same D c d _ same may (GoesDown by is works backs) =
      let turns : MayTurnState c.state = subst (MayDecide c.state) is may in
      becomes wait c d same Stuck BackDown turns.1 refl
      (λ e. (any-some d.work_reports works, any-some d.back_reports backs))
  late-same D c d _ same may (GoesBack by) =
      becomes wait c d same Guarded Unset (may-go D c d may by) refl (λ e. absurd (cc e))

  -- whatever it makes of it
  pub becomes-moved : (c d : CallRec) → CallBecomes p s W T c d → IsMovedCall wait c d
  becomes-moved c e (Decides d early late) =
      (let first = early-same c d early in late-same (Unit {0}) c d e first.0 first.1 late)
  becomes-moved c e (AtOnce late) = late-same ⊥ c c e (moves-none wait c) (decides-in c.state) late
  becomes-moved c _ (Bares asking plain came) = to-bare wait c (asking-lone c.state asking)
  becomes-moved c _ (Pairs w route out alone named is first sent) =
      to-pairing wait c (beside_lsp w.lsp s.lsp) (alone-lone c alone)
  becomes-moved c _ (Lacks cause alone lack) = to-unbacked wait c cause (lack-up cause lack) (alone-lone c alone)
  becomes-moved c _ (LacksLabel alone) = to-unbacked wait c (Code label_code) refl (alone-lone c alone)
  becomes-moved c _ (LosesBackup code pairing came) =
      to-unbacked wait c (Code code) refl (pairing-lone c.state pairing)
  becomes-moved c _ (Blocks code asking came) = to-blocked wait c (Code code) refl asking
  becomes-moved c _ (Counts waits less came) =
      waits-more wait c (subst (λ w. nat_le w (c.ticks + 1) ≡ false) within less)
