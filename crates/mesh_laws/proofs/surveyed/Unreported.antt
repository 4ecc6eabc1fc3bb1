-- Where nothing is under way and no group has failed, no fibre of a route of an LSP that stands is reported down.
use Rattle.std.proofs.Common.{◌≡◌, ◌<◌, ℕ, suc, Bool, true, false, cond, nat_eq, nat_lt, List, [], ◌∷◌, length, refl, sym, ap, ◌∙◌, subst, arith}
use Rattle.std.specs.Prelude.{◌&&◌, Option, Some}
use Rattle.ason_base.specs.{Network.{IsTopology, Network, find_link}, Routes.makes_route, declared.calls.Phase.Phase, declared.calls.Phase.TheVariants.{Held, Armed, Live}, declared.calls.Role.Role, declared.ids.Fibre.Fibre, declared.ids.LinkId.LinkId, declared.ids.Lsp.Lsp, declared.ids.NodeId.NodeId, declared.steps.Step.Step, declared.tables.Leg.Leg}
use Rattle.mesh_rules.specs.{declared.events.MeshEvent.MeshEvent, Calls.call_with, Events.{IsRun, after, route_of}, Failures.is_cut, Legs.is_beyond_asked, LocalNodes.fibre_in, Machine.{Mesh, start}, Quiet.IsQuiet, Reports.{fibre_into, first_node}}
use Rattle.mesh_nodes.proofs.LegList.{found-all}
use Rattle.lsp_laws.specs.{HopLaw.{LspFits, RouteFits, leg_at}, HopShapes.{leg_kind, phase_kind}, ReportLaw.{IsOfRoute, StandsTo, is_reported, is_standing, place_at}}
use Rattle.lsp_laws.proofs.{hops.Law.step_at, hops.Plans.{IsPlanRoute, link_at, node_at, plan, route_made}, hops.RowStates.{ArmedStands, HeldStands, LiveStands, KindStands}, nodes.BackLabels.beyond-stands}
use Rattle.mesh_laws.proofs.{alone.Facts.LspRoutes, reports.Desks.every_desk_tells, reports.ReportLaws.{every_report_tells, place-is, low-first as low-end}, reports.Reported.{first-is, low-first}, restoration.Reported.reported-cut, restoration.Settled.{all-alike, kind_on_route, leg-in}, restoration.Steps.{begins-at, ends-at, goes-on}, kept.Ended.ended, kept.Phases.IsUp}

-- Legs

up-stands : (q : Phase) → is_beyond_asked q ≡ true → KindStands (phase_kind q)
up-stands Held e = HeldStands
up-stands Armed e = ArmedStands
up-stands Live e = LiveStands
up-stands _ e = absurd (cc e)

kind-standing : (o : Option Leg) (q : Phase) → is_beyond_asked q ≡ true → leg_kind o ≡ phase_kind q →
    is_standing o ≡ true
kind-standing o q up e = let leg = leg-in q o e in rw (leg.1, leg.2, beyond-stands q up) refl

-- Fibres of a route

-- the fibre is that of a step
record IsOfStep (route : List Step) (e : NodeId) (f : Fibre) : Type 0 where
  place : ℕ
  below : place < length route
  link : f.link ≡ link_at (plan route e) place
  forward : f.forward ≡ nat_lt (node_at (plan route e) place).0 (node_at (plan route e) (suc place)).0

of-step : (route : List Step) (e n : NodeId) (k : LinkId) (f : Fibre) → fibre_into route e n k ≡ Some f →
    IsOfStep route e f
of-step [] e n k f is = absurd (cc is)
of-step (hop ∷ route) e n k f is =
    go (nat_eq hop.link.0 k.0) (nat_eq (first_node route e).0 n.0) refl is (of-step route e n k f)
  where
    further : IsOfStep route e f → IsOfStep (hop ∷ route) e f
    further r = record {
      place = suc r.place;
      below = (let x = r.below in omega arith);
      link = r.link;
      forward = r.forward;
    }

    go : (a b : Bool) → nat_eq (first_node route e).0 n.0 ≡ b →
        cond (a && b) (Some (record { link = hop.link; forward = nat_lt hop.node.0 n.0 })) (fibre_into route e n k)
        ≡ Some f → (fibre_into route e n k ≡ Some f → IsOfStep route e f) → IsOfStep (hop ∷ route) e f
    go true true test is later =
        let fibre : record { link = hop.link; forward = nat_lt hop.node.0 n.0 } ≡ f = cc is in
        let number : (first_node route e).0 ≡ n.0 = grind arith in
        let node : n.0 ≡ (node_at (plan route e) 0).0 = sym number ∙ ap (λ (m : NodeId). m.0) (first-is route e) in
        record {
          place = 0;
          below = omega arith;
          link = ap (λ (x : Fibre). x.link) (sym fibre);
          forward = ap (λ (x : Fibre). x.forward) (sym fibre) ∙ ap (λ m. nat_lt hop.node.0 m) node;
        }
    go true false test is later = further (later is)
    go false b test is later = further (later is)

-- a route leads to one node
same-end : (t : Network) (from a b : NodeId) (route : List Step) → 0 < length route →
    makes_route t from a route ≡ true → makes_route t from b route ≡ true → a ≡ b
same-end t from a b [] long made made' = absurd (omega arith)
same-end t from a b (hop ∷ route) long made made' =
    let i : ℕ = length route in
    let step = step_at (hop ∷ route) i (omega arith) in
    let over = (route_made t from a (hop ∷ route) long made).links i (omega arith) in
    let on : link_at (plan (hop ∷ route) a) i ≡ step.0.link = (let there = step.1 in rw there refl) in
    let found : find_link t step.0.link ≡ Some over.link =
    subst (λ k. find_link t k ≡ Some over.link) on over.found in
    let one = goes-on t from a (hop ∷ route) made i step.0 over.link step.1 found in
    let two = goes-on t from b (hop ∷ route) made' i step.0 over.link step.1 found in
    sym (ends-at (hop ∷ route) a) ∙ one.far ∙ sym two.far ∙ ends-at (hop ∷ route) b

module _ (t : Network) (events : List MeshEvent) (valid : IsTopology t) (run : IsRun t start events)
    (quiet : IsQuiet (after t start events)) (failed : (after t start events).failed ≡ []) where
  abbrev s : Mesh
  s = after t start events

  abbrev o : LspRoutes
  o = route_of t start events

  open ended t events run quiet use {hops, up}

  -- an LSP with a leg at its ingress stands along its route
  along : (l : Lsp) (g : Leg) → leg_at s l l.ingress ≡ Some g → (r : Role) (route : List Step) (e : NodeId) →
      RouteFits t s r l route e → (i : ℕ) → i < length route → StandsTo s l route e (suc i)
  along l g here r route e fits i below j small =
      let g_up : IsUp g = found-all IsUp l (s.nodes l.ingress.0).legs g here (up l.ingress.0) in
      let first : kind_on_route s l route e 0 ≡ phase_kind g.phase =
      rw (begins-at t l.ingress e route fits.leads fits.long, here) refl in
      kind-standing (leg_at s l (place_at route e j)) g.phase g_up
      (all-alike t s quiet r l route e fits (phase_kind g.phase) (up-stands g.phase g_up) first j (omega arith))

  -- and no fibre of its route is reported
  pub unreported : (l : Lsp) (g : Leg) → leg_at s l l.ingress ≡ Some g → (f : Fibre) → IsOfRoute t o l f →
      is_reported l f (call_with l (s.nodes l.ingress.0).calls) ≡ false
  unreported l g here f of = go (subst (LspFits t s l) of.sent (hops l))
    where
      go : LspFits t s l (Some of.route) → is_reported l f (call_with l (s.nodes l.ingress.0).calls) ≡ false
      go (r, e, fits) =
          let to_is : of.to ≡ e = same-end t l.ingress of.to e of.route fits.long of.made fits.leads in
          let into = subst (λ n. fibre_into of.route n of.at of.link ≡ Some f) to_is of.into in
          let step = of-step of.route e of.at of.link f into in
          let z : ℕ = step.place in
          let is_route : IsPlanRoute t l.ingress (plan of.route e) =
          route_made t l.ingress e of.route fits.long fits.leads in
          let over = is_route.links z step.below in
          let hop = step_at of.route z step.below in
          let on : link_at (plan of.route e) z ≡ hop.0.link = (let there = hop.1 in rw there refl) in
          let found : find_link t hop.0.link ≡ Some over.link =
          subst (λ k. find_link t k ≡ Some over.link) on over.found in
          let low = low-end t valid (link_at (plan of.route e) z) over.link over.found in
          let way : f.forward ≡ nat_eq over.link.high.0 (node_at (plan of.route e) (suc z)).0 =
          step.forward ∙ low-first t l.ingress (plan of.route e) is_route z step.below low in
          let link : f.link ≡ over.link.id = step.link ∙ sym over.id in
          let fibre : f ≡ fibre_in over.link (node_at (plan of.route e) (suc z)) =
          (λ i. record { link = link i; forward = way i }) in
          let there : f ≡ fibre_in over.link (place_at of.route e (suc z)) =
          fibre ∙ ap (fibre_in over.link) (sym (place-is of.route e (suc z))) in
          let told = reported-cut t events quiet (every_desk_tells t events valid run)
          (every_report_tells t events valid run) e l g here (fits.ends l.ingress g here) of.route of.sent fits.leads
          (along l g here r of.route e fits) z hop.0 over.link hop.1 found in
          ap (λ x. is_reported l x (call_with l (s.nodes l.ingress.0).calls)) there ∙ told
          ∙ ap (λ gs. is_cut gs over.link) failed
