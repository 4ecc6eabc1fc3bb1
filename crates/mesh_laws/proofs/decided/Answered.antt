-- Of every run: an LSP isn't Asked for longer than its route has hops, there and back, in sweeps.
use Rattle.std.proofs.Common.{◌≡◌, ◌+◌, ◌*◌, true, List, [], ◌∷◌, ◌++◌, length, refl, sym, subst, arith}
use Rattle.std.specs.Prelude.{Option, Some, None}
use Rattle.ason_base.specs.{Network.Network, Routes.makes_route, declared.calls.Phase.Phase, declared.calls.Phase.TheVariants.{Asked, Held, Armed, Live, Closing, Falling}, declared.ids.Lsp.Lsp, declared.ids.NodeId.NodeId, declared.steps.Step.Step, declared.tables.Leg.Leg}
use Rattle.mesh_rules.specs.{declared.events.MeshEvent.MeshEvent, Events.{IsRun, after, route_of, step}, Legs.is_asked, Machine.start}
use Rattle.lsp_laws.specs.{CallLaw.phase_of, HopLaw.{leg_at, mail_between}, HopShapes.{AskedLeg, leg_kind, phase_kind}}
use Rattle.lsp_laws.proofs.{hops.Chain.Chain, hops.HopLaws.follows, hops.Planned.{Follows, Planned}, hops.Plans.{node_at, plan}, hops.Purposes.Purpose, nodes.NodeRuns.facts-hold}
use Rattle.mesh_laws.proofs.{alone.AloneRuns.{after-append, append-one, run-first}, reports.GentleWords.is_waiting, decided.Asked.kind_at, decided.AskedDown.asked-nears, decided.AskedGoal.{StillAsked, asked_goal, asked-soon}, decided.AskedWas.asked-was, soon.Soon.{AllGood, nearer, reached, swept-once, to_the_next}, soon.AtFailure.route-stays, reports.ReportRuns.one-end}
use Rattle.mesh_laws.specs.{SetupLaw.{EveryLspIsAnsweredSoon, IsAskedFor}, Sweeps.{AreSweeps, IsSweep}}

-- Words

waits-kind : (o : Option Leg) → is_waiting o ≡ true → leg_kind o ≡ AskedLeg
waits-kind None e = absurd (cc e)
waits-kind (Some g) e = go g.phase e
  where
    go : (f : Phase) → is_asked f ≡ true → phase_kind f ≡ AskedLeg
    go Asked e = refl
    go Held e = absurd (cc e)
    go Armed e = absurd (cc e)
    go Live e = absurd (cc e)
    go Closing e = absurd (cc e)
    go Falling e = absurd (cc e)

phase-waits : (o : Option Leg) → phase_of o ≡ Some Asked → is_waiting o ≡ true
phase-waits None e = absurd (cc e)
phase-waits (Some g) e = let is : g.phase ≡ Asked = cc e in rw is refl

module _ (t : Network) (l : Lsp) (route : List Step) (end : NodeId) where
  -- what is known of the LSP after these events
  record Known (events : List MeshEvent) : Type 0 where
    pub purpose : Purpose
    pub planned : Planned t (after t start events) (route_of t start events) l purpose (plan route end)

  known : (events : List MeshEvent) → IsRun t start events → route_of t start events l ≡ Some route →
      makes_route t l.ingress end route ≡ true → Known events
  known events run sent made = go (subst (Follows t (after t start events) (route_of t start events) l) sent (follows t events run l))
    where
      go : Follows t (after t start events) (route_of t start events) l (Some route) → Known events
      go (e, q, pl) =
          let is : e ≡ end = one-end t l.ingress e end route pl.made made in
          subst (λ (x : NodeId). Planned t (after t start events) (route_of t start events) l q (plan route x)
          → Known events) (sym is) (λ x. record { purpose = q; planned = x }) pl

  -- where its leg is Asked at the end, it is Asked all along
  record Along (done ahead : List MeshEvent) : Type 0 where
    pub good : AllGood t (StillAsked t l (plan route end)) (after t start done) ahead
    pub waits : is_waiting (leg_at (after t start done) l l.ingress) ≡ true

  along : (done ahead : List MeshEvent) → IsRun t start (done ++ ahead) → route_of t start done l ≡ Some route →
      makes_route t l.ingress end route ≡ true →
      is_waiting (leg_at (after t (after t start done) ahead) l l.ingress) ≡ true → Along done ahead
  along done [] run sent made waits = record { good = tt; waits = waits }
  along done (e ∷ ahead) run sent made waits =
      let more : IsRun t start ((done ++ e ∷ []) ++ ahead) = subst (IsRun t start) (sym (append-one done e ahead)) run in
      let longer : IsRun t start (done ++ e ∷ []) = run-first t start (done ++ e ∷ []) ahead more in
      let now : IsRun t start done = run-first t start done (e ∷ ahead) run in
      let next : after t start (done ++ e ∷ []) ≡ step t (after t start done) e = after-append t start done (e ∷ []) in
      let sent' = route-stays t start done (e ∷ []) l route sent in
      let rest = along (done ++ e ∷ []) ahead more sent' made
      (subst (λ x. is_waiting (leg_at (after t x ahead) l l.ingress) ≡ true) (sym next) waits) in
      let here = known done now sent made in
      let there = known (done ++ e ∷ []) longer sent' made in
      let after-it : is_waiting (leg_at (step t (after t start done) e) l l.ingress) ≡ true =
      subst (λ x. is_waiting (leg_at x l l.ingress) ≡ true) next rest.waits in
      let before-it = asked-was t (after t start done) l (facts-hold t done now) here.planned.number e after-it in
      let first : node_at (plan route end) 0 ≡ l.ingress = here.planned.route.first in
      record {
        good = (
          record {
            purpose = here.purpose;
            chain = here.planned.chain;
            asked = subst (λ (n : NodeId). leg_kind (leg_at (after t start done) l n) ≡ AskedLeg) (sym first)
                (waits-kind (leg_at (after t start done) l l.ingress) before-it);
            next = there.purpose;
            still = subst (λ (n : NodeId). leg_kind (leg_at (step t (after t start done) e) l n) ≡ AskedLeg) (sym first)
                (waits-kind (leg_at (step t (after t start done) e) l l.ingress) after-it);
            later = subst (λ x. Chain t there.purpose l (plan route end) (leg_at x l) (mail_between x l)) next
                there.planned.chain;
          },
          subst (λ x. AllGood t (StillAsked t l (plan route end)) x ahead) next rest.good,
        );
        waits = before-it;
      }

-- The law

answered : (t : Network) (before since : List MeshEvent) → IsRun t start (before ++ since) → (l : Lsp)
    (route : List Step) → route_of t start before l ≡ Some route →
    AreSweeps t (2 * length route) (after t start before) since → IsAskedFor (after t start (before ++ since)) l → ⊥
answered t before since run l route sent sweeps asked =
    go (subst (Follows t (after t start before) (route_of t start before) l) sent
    (follows t before (run-first t start before since run) l))
  where
    waits : is_waiting (leg_at (after t (after t start before) since) l l.ingress) ≡ true
    waits = subst (λ x. is_waiting (leg_at x l l.ingress) ≡ true) (after-append t start before since)
        (phase-waits (leg_at (after t start (before ++ since)) l l.ingress) asked)

    go : Follows t (after t start before) (route_of t start before) l (Some route) → ⊥
    go (end, q, pl) =
        let all = along t l route end before since run sent pl.made waits in
        let kind : kind_at l (plan route end) (after t start before) 0 ≡ AskedLeg =
        subst (λ (n : NodeId). leg_kind (leg_at (after t start before) l n) ≡ AskedLeg) (sym pl.route.first)
        (waits-kind (leg_at (after t start before) l l.ingress) all.waits) in
        let nears = asked-nears t l (plan route end) pl.route in
        let soon = asked-soon t l (plan route end) (after t start before) q pl.chain kind in
        reached t to_the_next (asked_goal t l (plan route end)) nears IsSweep
        (swept-once t (asked_goal t l (plan route end)) nears) (2 * length route) (after t start before) since sweeps
        all.good
        (nearer (asked_goal t l (plan route end)) (λ d. 1) (λ d. 1) (length route + length route) (2 * length route)
        (after t start before) (λ v. omega arith) soon)

-- Every LSP is answered within as many sweeps as its route has hops, there and back.
pub every_lsp_soon : EveryLspIsAnsweredSoon
every_lsp_soon t events run l was asked =
    answered t was.before was.since (subst (IsRun t start) (sym was.parts) run) l was.route was.sent was.sweeps
    (subst (λ es. IsAskedFor (after t start es) l) (sym was.parts) asked)
