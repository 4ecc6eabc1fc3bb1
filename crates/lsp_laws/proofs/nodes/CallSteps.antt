-- What holds of a call after a step of it at its ingress, by what a rule may make of it.
use Rattle.std.proofs.Common.{Bool, true, false, ◌≡◌, inl, List, refl}
use Rattle.std.specs.Prelude.{Option, Some, None, is_some, nat_lt, drop}
use Rattle.ason_base.specs.{declared.calls.CallState.TheVariants.{Asking, Bare, Blocked, Guarded, Pairing, Stuck, Turned, Turning}, declared.calls.CallState.CallState, declared.calls.Cause.TheVariants.{BackDown, Code, Full, NoBackup, Spent}, declared.codes.ErrCode.ErrCode, declared.ids.CallNo.CallNo, declared.ids.Fibre.Fibre, declared.ids.Lsp.Lsp, declared.network.LinkSpec.LinkSpec, declared.steps.Step.Step, declared.tables.CallRec.CallRec, declared.tables.Leg.Leg, Codes.{busy_code, label_code}, Risks.unknown_link, declared.tables.Out.Out}
use Rattle.mesh_rules.specs.{declared.limits.TheConstants.LAST_NUMBER, CallSteps.{call_answered, call_contended, call_refused, call_turned}, Calls.{bare, blocked, call_with, guarded, is_asking, is_pairing, is_turning, names, pairing, stuck, turned, turning, unbacked}, Changes.Answer, FirstLegs.{first_link, is_full, lacks_first_back}, KnownRows.known_rows, Legs.{is_contended, is_held, is_in_use, is_work, leg_of}, LocalNodes.LocalNode, Pairs.{beside_lsp, admitted_backup, backup_route, guarding, is_two_way, over_backup, pair, pair_over, route_from}, Reports.{call_reported, with_report}, State.NodeState, Turns.{decide, decided, go_back, has_any, turn}}
use Rattle.mesh_nodes.specs.Order.{CallsRise}
use Rattle.mesh_nodes.proofs.{Cases.if_cases, CallList.{called-found, called-names}}
use Rattle.lsp_laws.proofs.{nodes.CallChanges.{AreChanges, EachCall}, nodes.CallWays.{Answered, Bares, CallBecomes, Blocks, Carries, Contended, Decides, Early, Fails, GoesBack, GoesDown, Guards, Hit, IsCallAlone, IsReportable, Lacks, LacksLabel, Late, LosesBackup, MayGoBy, MayTurnBy, Misses, Pairs, Removed, Reported, Reports, Stays, Turns, Way, Whole, ByReport}}

-- P holds of each call before the rule, and R of those that the rule puts in their places; G of those that go. W: what
-- came to the node. T: what is sent.
module _ (G : CallNo → Type 0) (P R : CallRec → Type 0) (W : Way → Type 0) (T : List Out → Type 0) (p : LocalNode)
    (s : NodeState) (keeps : (c d : CallRec) → CallBecomes p s W T c d → P c → R d) (rise : CallsRise s.calls)
    (each : EachCall P s.calls) where
  abbrev pub Holds : Answer → Type 0
  Holds a = AreChanges G R a.calls

  abbrev pub HoldsIf : Answer → Type 0
  HoldsIf a = T a.sent → AreChanges G R a.calls

  -- the call that the rule puts
  pub puts : (c d : CallRec) → CallBecomes p s W T c d → P c → R d × Unit {0}
  puts c d way here = (keeps c d way here, tt)

  -- A backup is asked for

  holds-admitted : (c : CallRec) (w : Leg) (route : List Step) (out : LinkSpec) → IsCallAlone c → names w.lsp c ≡ true →
      P c → backup_route p s c w ≡ Some route → first_link p route ≡ Some out →
      HoldsIf (admitted_backup p s c w out (drop 1 route))
  holds-admitted c w route out alone named here is first =
      if_cases HoldsIf (nat_lt LAST_NUMBER s.lsp) _ _
      (λ e sent. puts c (unbacked c Spent) (Lacks Spent alone refl) here)
      (λ e. if_cases HoldsIf (is_full s) _ _ (λ f sent. puts c (unbacked c Full) (Lacks Full alone refl) here)
      (λ f. if_cases HoldsIf (lacks_first_back p s (is_two_way w) (guarding p w) out) _ _
      (λ h sent. puts c (unbacked c (Code label_code)) (LacksLabel alone) here)
      (λ h sent. puts c (pairing c (beside_lsp w.lsp s.lsp)) (Pairs w route out alone named is first sent) here)))

  holds-over : (c : CallRec) (w : Leg) (route : List Step) (o : Option LinkSpec) → IsCallAlone c →
      names w.lsp c ≡ true →
      P c → backup_route p s c w ≡ Some route → first_link p route ≡ o → HoldsIf (over_backup p s c w route o)
  holds-over c w route None alone named here is first =
      λ sent. puts c (unbacked c NoBackup) (Lacks NoBackup alone refl) here
  holds-over c w route (Some out) alone named here is first = holds-admitted c w route out alone named here is first

  holds-pair_over : (c : CallRec) (w : Leg) (o : Option (List Step)) → IsCallAlone c → names w.lsp c ≡ true → P c →
      backup_route p s c w ≡ o → HoldsIf (pair_over p s c w o)
  holds-pair_over c w None alone named here is =
      λ sent. puts c (unbacked c NoBackup) (Lacks NoBackup alone refl) here
  holds-pair_over c w (Some route) alone named here is = holds-over c w route (first_link p route) alone named here is refl

  -- beside the working LSP of a call that has none
  pub holds-pair : (c : CallRec) (w : Leg) → IsCallAlone c → names w.lsp c ≡ true → P c → HoldsIf (pair p s c w)
  holds-pair c w alone named here =
      if_cases HoldsIf (is_some (unknown_link (known_rows p s) (route_from p w))) _ _
      (λ e sent. puts c (unbacked c NoBackup) (Lacks NoBackup alone refl) here)
      (λ e. holds-pair_over c w (backup_route p s c w) alone named here refl)

  -- A call turns, goes back, or decides

  module _ (D : Type 0) (c d : CallRec) (here : P c) (on : (e : CallRec) → Late s W D d e →
      CallBecomes p s W T c e) where
    late : (e : CallRec) → Late s W D d e → R e × Unit {0}
    late e way = puts c e (on e way) here

    -- where it may, over the backup's leg
    pub holds-turn : (o : Option Leg) → MayTurnBy W D d → Holds (turn s.legs d o)
    holds-turn None may = late d Stays
    holds-turn (Some b) may =
        if_cases Holds (is_held b.phase) _ _
        (λ e. if_cases Holds (is_contended s.legs b) _ _ (λ f. late (stuck d (Code busy_code)) (Fails may b f))
        (λ f. late (turning d) (Turns may)))
        (λ e. late d Stays)

    -- and back
    pub holds-go_back : (o : Option Leg) → MayGoBy W D d → Holds (go_back d o)
    holds-go_back None may = late d Stays
    holds-go_back (Some b) may =
        if_cases Holds (is_in_use b.phase) _ _ (λ e. late (guarded d) (GoesBack may)) (λ e. late d Stays)

    holds-decided : D → (o : Option Leg) (state : CallState) (works backs : Bool) → d.state ≡ state →
        has_any d.work_reports ≡ works → has_any d.back_reports ≡ backs → Holds (decided s.legs d o state works backs)
    holds-decided by o Asking works backs is w b = late d Stays
    holds-decided by o Blocked works backs is w b = late d Stays
    holds-decided by o Bare works backs is w b = late d Stays
    holds-decided by o Pairing works backs is w b = late d Stays
    holds-decided by o Guarded true false is w b = holds-turn o (ByReport by is w)
    holds-decided by o Guarded true true is w b = late (stuck d BackDown) (GoesDown by is w b)
    holds-decided by o Guarded false backs is w b = late d Stays
    holds-decided by o Turning works backs is w b = late d Stays
    holds-decided by o Turned true backs is w b = late d Stays
    holds-decided by o Turned false true is w b = holds-go_back o (Hit by is w b)
    holds-decided by o Turned false false is w b = late d Stays
    holds-decided by o Stuck true backs is w b = late d Stays
    holds-decided by o Stuck false backs is w b = late (guarded d) (GoesBack (Whole by is w))

    -- by its reports
    pub holds-decide : D → (o : Option Leg) → Holds (decide s.legs d o)
    holds-decide by o = holds-decided by o d.state (has_any d.work_reports) (has_any d.back_reports) refl refl refl

  -- What a message makes of the call of an LSP

  called : (l : Lsp) (c : CallRec) → call_with l s.calls ≡ Some c → P c
  called l c is = each c.call c (called-found l s.calls c rise is)

  early : (c d : CallRec) → Early p s W c d → (e : CallRec) → Late s W (Unit {0}) d e → CallBecomes p s W T c e
  early c d way e on = Decides d way on

  -- a Resv
  pub holds-call_answered : W Answered → (g : Leg) (o : Option CallRec) → call_with g.lsp s.calls ≡ o →
      HoldsIf (call_answered p s g o)
  holds-call_answered came g None is = λ sent. tt
  holds-call_answered came g (Some c) is =
      let here = called g.lsp c is in
      if_cases HoldsIf (is_work g.role) _ _
      (λ e. if_cases HoldsIf (is_asking c.state) _ _
      (λ a. if_cases HoldsIf c.protected _ _ (λ e. holds-pair c g (inl a) (called-names g.lsp s.calls c is) here)
      (λ e sent. puts c (bare c) (Bares a e came) here)) (λ e sent. tt))
      (λ e. if_cases HoldsIf (is_pairing c.state) _ _
      (λ e sent. holds-decide (Unit {0}) c (guarded c) here (early c (guarded c) (Guards e came)) tt (Some g)) (λ e sent. tt))

  -- the backup is activated
  pub holds-call_turned : W Answered → (l : Lsp) (b : Leg) (o : Option CallRec) → call_with l s.calls ≡ o →
      Holds (call_turned s b o)
  holds-call_turned came l b None is = tt
  holds-call_turned came l b (Some c) is =
      if_cases Holds (is_turning c.state) _ _
      (λ e. holds-decide (Unit {0}) c (turned c) (called l c is) (early c (turned c) (Carries e came)) tt (Some b)) (λ e. tt)

  -- its activation is refused
  pub holds-call_contended : W Contended → (l : Lsp) (b : Leg) (o : Option CallRec) → call_with l s.calls ≡ o →
      Holds (call_contended s b o)
  holds-call_contended came l b None is = tt
  holds-call_contended came l b (Some c) is =
      if_cases Holds (is_turning c.state) _ _
      (λ e. holds-decide (Unit {0}) c (stuck c (Code busy_code)) (called l c is)
      (early c (stuck c (Code busy_code)) (Misses e came)) tt (Some b))
      (λ e. tt)

  -- the LSP is refused
  pub holds-call_refused : (code : ErrCode) → W (Removed code) → (g : Leg) (o : Option CallRec) →
      call_with g.lsp s.calls ≡ o → Holds (call_refused code g o)
  holds-call_refused code came g None is = tt
  holds-call_refused code came g (Some c) is =
      let here = called g.lsp c is in
      if_cases Holds (is_work g.role) _ _
      (λ e. if_cases Holds (is_asking c.state) _ _ (λ a. puts c (blocked c (Code code)) (Blocks code a came) here)
      (λ e. tt))
      (λ e. if_cases Holds (is_pairing c.state) _ _
      (λ a. puts c (unbacked c (Code code)) (LosesBackup code a came) here) (λ e. tt))

  -- a fibre is reported
  pub holds-call_reported : W Reported → (l : Lsp) (down : Bool) (f : Fibre) (o : Option CallRec) →
      call_with l s.calls ≡ o → IsReportable p s l f → Holds (call_reported s l down f o)
  holds-call_reported came l down f None is of = tt
  holds-call_reported came l down f (Some c) is of =
      holds-decide (Unit {0}) c (with_report c l down f) (called l c is)
      (early c (with_report c l down f) (Reports l down f (called-names l s.calls c is) of came))
      tt (leg_of c.back s.legs)
