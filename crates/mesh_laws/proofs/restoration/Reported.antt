-- Once nothing is under way, an LSP that is cross-connected has just those of its fibres reported that are physically
-- down.
use Rattle.std.proofs.{Common.{◌≡◌, ◌<◌, ℕ, zero, suc, Bool, true, false, nat_eq, List, [], length, refl, ◌∙◌, subst, arith}, lemmas.Option.slice_get_within}
use Rattle.std.specs.Prelude.{IsTrue, Option, Some, slice_get}
use Rattle.ason_base.specs.{Lsps.has_fibre, Network.{Network, find_link, other_end, touches}, Routes.makes_route, declared.ids.LinkId.LinkId, declared.ids.Lsp.Lsp, declared.ids.NodeId.NodeId, declared.network.LinkSpec.LinkSpec, declared.steps.Step.Step, declared.tables.CallRec.CallRec, declared.tables.Leg.Leg}
use Rattle.mesh_rules.specs.{declared.events.MeshEvent.MeshEvent, Calls.call_with, Events.{after, route_of}, Failures.is_cut, LocalNodes.fibre_in, Machine.{Mesh, start}, Quiet.IsQuiet}
use Rattle.mesh_nodes.proofs.routes.Nodes.{find-there}
use Rattle.lsp_laws.specs.{HopLaw.leg_at, JoinedLaw.{IsLive, LspIsJoined}, ReportLaw.{DesksTell, PlaceTells, ReportsTell, RouteTells, StandsTo, is_reported, is_standing, on_the_way, place_at, reports_of, told_over}}
use Rattle.lsp_laws.proofs.hops.Law.{step_at}
use Rattle.mesh_laws.specs.RestorationLaw.{is_lsp_hit, is_route_cut}
use Rattle.mesh_laws.proofs.{reports.WaitingLegs.silent-way, restoration.Cuts.cut-at, restoration.Steps.goes-on}

live-stands : (o : Option Leg) (g : Leg) → o ≡ Some g → IsLive g.phase → is_standing o ≡ true
live-stands o g here live = rw (here, live) refl

module _ (t : Network) (events : List MeshEvent) (quiet : IsQuiet (after t start events))
    (desks : DesksTell t (after t start events)) (reports : ReportsTell t events) where
  abbrev s : Mesh
  s = after t start events

  -- nothing is told on the way
  silent : (l : Lsp) (route : List Step) (e n : NodeId) (k : LinkId) (i : ℕ) →
      on_the_way (told_over s l route e n k) i ≡ []
  silent l route e n k i =
      silent-way (told_over s l route e n k) i
      (λ j less. let none = quiet.mail (place_at route e (suc j)).0 (place_at route e j).0 in rw none refl)

  -- a node knows which of its fibres in are down
  known-cut : (n : NodeId) (link : LinkSpec) (k : LinkId) → find_link t k ≡ Some link → touches n link ≡ true →
      has_fibre (s.nodes n.0).down (fibre_in link n) ≡ is_cut s.failed link
  known-cut n link k found at_end =
      let told = desks n link (find-there (λ m. nat_eq m.id.0 k.0) t.links link found) at_end in
      rw (quiet.desks n.0) at told

  -- of the fibre of a step of its route: an LSP that stands up to each step has it reported just where it is down
  pub reported-cut : (e : NodeId) (l : Lsp) (g : Leg) → leg_at s l l.ingress ≡ Some g → g.egress ≡ e →
      (route : List Step) → route_of t start events l ≡ Some route → makes_route t l.ingress e route ≡ true →
      ((i : ℕ) → i < length route → StandsTo s l route e (suc i)) → (i : ℕ) (hop : Step) (link : LinkSpec) →
      slice_get route i ≡ Some hop → find_link t hop.link ≡ Some link →
      is_reported l (fibre_in link (place_at route e (suc i))) (call_with l (s.nodes l.ingress.0).calls)
      ≡ is_cut s.failed link
  reported-cut e l g here ends route sent leads stands i hop link there found =
      let tells = subst (RouteTells t s l route) ends (reports l route g sent here) in
      let place : PlaceTells s l route e i link (place_at route e (suc i)) =
      tells i hop link there found (stands i (slice_get_within route i hop there)) in
      let on = goes-on t l.ingress e route leads i hop link there found in
      rw (silent l route e (place_at route e (suc i)) link.id (suc i)) at place
      ∙ known-cut (place_at route e (suc i)) link hop.link found on.touches_far

  module _ (b : Bool) (e : NodeId) (l : Lsp) (g : Leg) (here : leg_at s l l.ingress ≡ Some g) (ends : g.egress ≡ e)
      (joined : LspIsJoined t events IsLive b e l) where
    -- both ends of a step
    step-stands : (i : ℕ) → i < length joined.route → IsTrue (is_standing (leg_at s l (place_at joined.route e i))) ×
        IsTrue (is_standing (leg_at s l (place_at joined.route e (suc i))))
    step-stands i below =
        let step = step_at joined.route i below in
        let hop = joined.hops i step.0 step.1 in
        let on = goes-on t l.ingress e joined.route joined.leads i step.0 hop.link step.1 hop.found in (
          rw on.near (live-stands (leg_at s l step.0.node) hop.from hop.from_there hop.from_phase),
          rw on.far (live-stands (leg_at s l (other_end hop.link step.0.node)) hop.to hop.to_there hop.to_phase),
        )

    -- each node up to that after a step
    stands-to : (i : ℕ) → i < length joined.route → StandsTo s l joined.route e (suc i)
    stands-to i below zero small = (step-stands 0 (omega arith)).0
    stands-to i below (suc j) small = (step-stands j (omega arith)).1

    -- where none is reported, none is down
    pub unreported-up : (c : CallRec) → call_with l (s.nodes l.ingress.0).calls ≡ Some c → reports_of l c ≡ [] →
        is_lsp_hit t events (Some l) ≡ false
    unreported-up c called none = rw joined.sent (go (is_route_cut t s.failed (Some joined.route)) refl)
      where
        go : (b : Bool) → is_route_cut t s.failed (Some joined.route) ≡ b → b ≡ false
        go false e = refl
        go true cut =
            let one = cut-at t s.failed joined.route cut in
            let its = one.1 in
            let told = reported-cut e l g here ends joined.route joined.sent joined.leads stands-to its.place one.0
            its.link its.there its.found in
            let down = its.cut in
            let up : is_reported l (fibre_in its.link (place_at joined.route e (suc its.place)))
            (call_with l (s.nodes l.ingress.0).calls) ≡ false = rw (called, none) refl in
            absurd (cc (told, down, up))
