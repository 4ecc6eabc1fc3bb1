-- Where nothing is under way and no group has failed, the state is calm if no activation has passed a backup's leg; and
-- so it is if by the rows each backup is Asked or Held.
use Rattle.std.proofs.{Common.{◌≡◌, ℕ, Bool, true, false, nat_eq, List, [], ◌∷◌, refl, sym, ap, ◌∙◌, subst, arith, Contains}, lemmas.List.Elements.{Contains-get_or, recursion_from_All}, lemmas.Bool.{false_from_ne_true, not-true, or_right}}
use Rattle.std.specs.{Prelude.{◌||◌, Option, Some, None, IfSome}, List.AllByRecursion}
use Rattle.ason_base.specs.{Lsps.{has_fibre, is_lsp}, Network.{IsTopology, Network, touches}, declared.calls.CallState.CallState, declared.calls.CallState.TheVariants.{Asking, Bare, Blocked, Guarded, Pairing, Stuck, Turned, Turning}, declared.calls.CallRow.CallRow, declared.calls.LegRow.LegRow, declared.calls.Phase.Phase, declared.calls.Phase.TheVariants.{Asked, Held, Live}, declared.calls.Role.Role, declared.calls.Role.TheVariants.{Work, Back}, declared.ids.Fibre.Fibre, declared.ids.Lsp.Lsp, declared.ids.NodeId.NodeId, declared.network.LinkSpec.LinkSpec, declared.tables.CallRec.CallRec, declared.tables.Leg.Leg}
use Rattle.ason_base.proofs.{Members.kept-there, Finding.found-passes, LspOrder.{same_bool-eq, same_fibre-refl}}
use Rattle.mesh_rules.specs.{declared.events.MeshEvent.MeshEvent, Calls.{call_with, names}, Events.{IsRun, after, route_of}, Failures.is_cut, Legs.{find_leg, is_asked, is_held, leg_of}, LocalNodes.{fibre_in, local_node, own_link}, Alarms.enters, Machine.{Mesh, start}, Quiet.IsQuiet, Rows.leg_row, Turns.has_any}
use Rattle.mesh_nodes.proofs.{LegList.{all-found, found-all, same_lsp-refl}, routes.Nodes.find-there}
use Rattle.lsp_laws.specs.{CallLaw.{FitsLegs, IsNamed, phases_fit, fits_reports, phase_of}, HopLaw.leg_at, ReportLaw.{AreOf, IsOfRoute, reports_of}}
use Rattle.lsp_laws.proofs.{hops.ReportedFibres.every_report_of_route, nodes.NodeLaws.every_call, hops.NamedPhases.named_is, nodes.CallParts.lsp-is, nodes.TurnedCalls.none-reported, nodes.BackLabels.beyond-stands}
use Rattle.mesh_laws.specs.{AloneLaw.{CallIsCalm, Calm, LegIsCalm, is_idle}, KnownLaw.ComesIn, SurveyLaw.{CalmIsShown, IsShownCalm, ShowsAll, is_reserved_row}}
use Rattle.mesh_laws.proofs.{alone.Facts.LspRoutes, ordered.Law.every_known, reports.Desks.every_desk_tells, restoration.Called.call-is, kept.Ended.ended, kept.Phases.IsUp, surveyed.Rows.leg-row-there, surveyed.Stands.all-here, surveyed.Unreported.unreported}

reserved-idle : (q : Phase) → (is_asked q || is_held q) ≡ true → is_idle q ≡ true
reserved-idle Asked e = refl
reserved-idle Held e = refl
reserved-idle _ e = absurd (cc e)

row-calm : (n : NodeId) (b : Leg) → is_reserved_row (leg_row n b) ≡ true → LegIsCalm b
row-calm n b e back = reserved-idle b.phase (rw back at e)

-- Calls without an LSP

no-work : (state : CallState) (b : Option Phase) (works backs : Bool) → phases_fit state None b ≡ true →
    fits_reports state works backs ≡ true → works ≡ false
no-work Blocked b false backs e told = refl
no-work Blocked b true backs e told = absurd (cc told)
no-work state b works backs e told = absurd (cc e)

no-back : (state : CallState) (w : Option Phase) (works backs : Bool) → phases_fit state w None ≡ true →
    fits_reports state works backs ≡ true → backs ≡ false
no-back Asking w works backs e told = not-true backs told
no-back Bare w works backs e told = not-true backs told
no-back Blocked w works false e told = refl
no-back Blocked w works true e told = absurd (let both = or_right works true refl in cc (both, told))
no-back Pairing (Some Live) works backs e told = absurd (cc e)
no-back Guarded (Some Live) works backs e told = absurd (cc e)
no-back Turning (Some Live) works backs e told = absurd (cc e)
no-back Turned (Some Live) works backs e told = absurd (cc e)
no-back Stuck (Some Live) works backs e told = absurd (cc e)
no-back state w works backs e told = absurd (cc e)

module _ (t : Network) (events : List MeshEvent) (valid : IsTopology t) (run : IsRun t start events)
    (quiet : IsQuiet (after t start events)) (failed : (after t start events).failed ≡ []) where
  abbrev s : Mesh
  s = after t start events

  abbrev o : LspRoutes
  o = route_of t start events

  open ended t events run quiet use {up}

  -- Known fibres

  -- a fibre that comes in at a node isn't known to be down
  unknown : (n : NodeId) (f : Fibre) → ComesIn (local_node t n) f → has_fibre (s.nodes n.0).down f ≡ false
  unknown n f comes = go (own_link (local_node t n) f.link) refl comes
    where
      go : (x : Option LinkSpec) → own_link (local_node t n) f.link ≡ x → enters (local_node t n) f x ≡ true →
          has_fibre (s.nodes n.0).down f ≡ false
      go None found e = absurd (cc e)
      go (Some l) found e =
          let own = find-there (λ k. nat_eq k.id.0 f.link.0) (local_node t n).own l found in
          let number : nat_eq l.id.0 f.link.0 ≡ true =
          found-passes (λ k. nat_eq k.id.0 f.link.0) (local_node t n).own l found in
          let both = kept-there (touches n) t.links l own in
          let same : f.link.0 ≡ l.id.0 = grind arith in
          let fibre : f ≡ fibre_in l n =
          (let way = same_bool-eq f.forward (nat_eq l.high.0 n.0) e in
          λ i. record { link = record { 0 = same i }; forward = way i }) in
          let told = every_desk_tells t events valid run n l both.0 both.1 in
          let known : has_fibre (s.nodes n.0).down (fibre_in l n) ≡ is_cut s.failed l =
          rw (quiet.desks n.0) at told in
          ap (has_fibre (s.nodes n.0).down) fibre ∙ known ∙ ap (λ gs. is_cut gs l) failed

  none-known : (n : NodeId) (fibres : List Fibre) → (s.nodes n.0).down ≡ fibres →
      AllByRecursion (ComesIn (local_node t n)) fibres → fibres ≡ []
  none-known n [] is all = refl
  none-known n (f ∷ fibres) is all =
      let told = unknown n f all.0 in
      let has : has_fibre (f ∷ fibres) f ≡ true = rw (same_fibre-refl f) refl in
      absurd (let none : has_fibre (f ∷ fibres) f ≡ false = rw is at told in cc (has, none))

  -- Calls

  module _ (n : ℕ) (c : CallRec) (there : Contains (s.nodes n).calls c)
      (fit : FitsLegs n (s.nodes n).lsp (s.nodes n).legs c) where
    -- of an LSP that the call names no fibre is reported
    silent : (r : Role) (l : Lsp) → IsNamed n (s.nodes n).lsp (s.nodes n).legs r c.egress l → names l c ≡ true →
        (fibres : List Fibre) → reports_of l c ≡ fibres → AllByRecursion (IsOfRoute t o l) fibres → fibres ≡ []
    silent r l named mine [] is all = refl
    silent r l named mine (f ∷ fibres) is all =
        let g : Leg = named.leg.0 in
        let here : leg_at s l l.ingress ≡ Some g =
        subst (λ m. find_leg l (s.nodes m).legs ≡ Some named.leg.0) (sym named.ingress) named.leg.1 in
        let g_up : IsUp g = found-all IsUp l (s.nodes n).legs g named.leg.1 (up n) in
        let called : call_with l (s.nodes n).calls ≡ Some c =
        call-is n (s.nodes n) l g c (every_call t events run n) there mine named.ingress named.leg.1
        (beyond-stands g.phase g_up) in
        let at_ingress : call_with l (s.nodes l.ingress.0).calls ≡ Some c =
        subst (λ m. call_with l (s.nodes m).calls ≡ Some c) (sym named.ingress) called in
        let told = unreported t events valid run quiet failed l g here f all.0 in
        let none : has_fibre (reports_of l c) f ≡ false = rw at_ingress at told in
        let has : has_fibre (f ∷ fibres) f ≡ true = rw (same_fibre-refl f) refl in
        absurd (let none' : has_fibre (f ∷ fibres) f ≡ false = rw is at none in cc (has, none'))

    -- nor of one that it may have or not
    each-silent : (r : Role) (w : Option Lsp) (fibres : List Fibre) →
        IfSome w (IsNamed n (s.nodes n).lsp (s.nodes n).legs r c.egress) → (w ≡ None → fibres ≡ []) →
        ((l : Lsp) → w ≡ Some l → IsNamed n (s.nodes n).lsp (s.nodes n).legs r c.egress l →
        (names l c ≡ true) × (reports_of l c ≡ fibres)) → AreOf (IsOfRoute t o) w fibres → fibres ≡ []
    each-silent r None fibres named none mine all = none refl
    each-silent r (Some l) fibres named none mine all =
        let of = mine l refl named in silent r l named of.0 fibres of.1 all

    work-silent : AreOf (IsOfRoute t o) c.work c.work_reports → c.work_reports ≡ []
    work-silent = each-silent Work c.work c.work_reports fit.work
        (λ is. none-reported c.work_reports
        (no-work c.state (phase_of (leg_of c.back (s.nodes n).legs)) (has_any c.work_reports) (has_any c.back_reports)
        (let e = fit.state in rw is at e) fit.reports))
        (λ l is named. let mine : is_lsp c.work l ≡ true = rw is (same_lsp-refl l) in (rw mine refl, rw mine refl))

    -- the working LSP isn't the backup
    not-work : (l : Lsp) → IsNamed n (s.nodes n).lsp (s.nodes n).legs Back c.egress l → is_lsp c.work l ≡ false
    not-work l named = false_from_ne_true (is_lsp c.work l) (λ e.
        let work = named_is n (s.nodes n).lsp (s.nodes n).legs Work c.egress c.work l fit.work
        (lsp-is c.work l e) in
        let same : work.leg.0 ≡ named.leg.0 = (let x = work.leg.1 in let y = named.leg.1 in cc (x, y)) in
        let is : named.leg.0.role ≡ Work = subst (λ (z : Leg). z.role ≡ Work) same work.leg.2 in
        let other = named.leg.2 in
        cc (is, other))

    back-silent : AreOf (IsOfRoute t o) c.back c.back_reports → c.back_reports ≡ []
    back-silent = each-silent Back c.back c.back_reports fit.back
        (λ is. none-reported c.back_reports
        (no-back c.state (phase_of (leg_of c.work (s.nodes n).legs)) (has_any c.work_reports) (has_any c.back_reports)
        (let e = fit.state in rw is at e) fit.reports))
        (λ l is named.
        let mine : is_lsp c.back l ≡ true = rw is (same_lsp-refl l) in
        let other = not-work l named in (or_right (is_lsp c.work l) _ mine, rw other refl))

  -- The state

  pub calls-calm : (n : ℕ) → AllByRecursion CallIsCalm ((after t start events).nodes n).calls
  calls-calm n =
      recursion_from_All CallIsCalm (s.nodes n).calls
      (λ i d small.
      let of = every_report_of_route t events run n i d small in
      let fit = (every_call t events run n).calls i d small in
      let there = Contains-get_or (s.nodes n).calls i d small in (
        work-silent n _ there fit of.work,
        back-silent n _ there fit of.back,
      ))

  -- a state in which no activation has passed a backup's leg
  pub calm-idle : ((n : ℕ) → AllByRecursion LegIsCalm ((after t start events).nodes n).legs) →
      Calm (after t start events)
  calm-idle idle = record {
    failed = failed;
    desks = λ n. rw (quiet.desks n) tt;
    down = λ n. none-known (record { 0 = n }) (s.nodes n).down refl
        (recursion_from_All (ComesIn (local_node t (record { 0 = n }))) (s.nodes n).down
        (every_known t events run (record { 0 = n })));
    reports = calls-calm;
    legs = idle;
    mail = λ u d. rw (quiet.mail u d) tt;
  }

-- By the rows

legs-calm : (t : Network) (events : List MeshEvent) → IsTopology t → IsRun t start events → (calls : List CallRow)
    (legs : List LegRow) → ShowsAll t (after t start events) calls legs → IsShownCalm (after t start events) legs →
    (n : ℕ) → AllByRecursion LegIsCalm ((after t start events).nodes n).legs
legs-calm t events valid run calls legs shows shown n =
    let end = ended t events run shown.quiet in
    all-found LegIsCalm ((after t start events).nodes n).legs (end.facts.node n).legs_rise
    (λ l g here. row-calm (record { 0 = n }) g
    (all-here (λ r. is_reserved_row r ≡ true) legs (leg_row (record { 0 = n }) g)
    (leg-row-there t valid (after t start events) (route_of t start events) end.hops end.facts calls legs shows l
    (record { 0 = n }) g here) shown.backups))

-- a state that shows that it is calm is calm
pub calm_shown : (t : Network) (events : List MeshEvent) → IsTopology t → IsRun t start events → CalmIsShown t events
calm_shown t events valid run calls legs shows shown =
    calm-idle t events valid run shown.quiet shown.failed (legs-calm t events valid run calls legs shows shown)
