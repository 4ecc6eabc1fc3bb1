-- From the order of a setup alone on: what its working LSP does, event by event.
use Rattle.std.proofs.{Common.{◌≡◌, ◌≢◌, ◌<◌, ◌≤◌, ℕ, zero, suc, Bool, true, false, cond, nat_eq, List, [], ◌∷◌, ◌++◌, length, refl, sym, ap, ◌∙◌, subst, arith, inl, inr, Contains}, lemmas.List.Elements.recursion_from_All}
use Rattle.std.specs.{Prelude.{◌⊎◌, ◌||◌, Option, Some, None, slice_get}, List.{AllByRecursion, list_any}}
use Rattle.mesh_rules.specs.{declared.limits.TheConstants.{LAST_NUMBER, MOST_LEGS}, declared.events.MeshEvent.MeshEvent, declared.events.MeshEvent.TheVariants.Desk, Calls.{find_call, names}, Events.{IsRun, after, first_route, or_route, route_of, sent_at_ingress, step}, Failures.is_cut, FirstLegs.first_link, LocalNodes.{fibre_in, is_link_there, local_node, own_link}, Machine.{Mesh, commit, start, without_item}, Orders.on_item, Quiet.IsQuiet}
use Rattle.ason_base.specs.{Lsps.{has_fibre, same_fibre}, Network.{IsTopology, Network, find_link, other_end, touches}, Routes.makes_route, declared.commands.Group.Group, declared.commands.DeskItem.DeskItem, declared.ids.CallNo.CallNo, declared.ids.Lsp.Lsp, declared.ids.NodeId.NodeId, declared.network.LinkSpec.LinkSpec, declared.steps.Step.Step, declared.tables.Leg.Leg}
use Rattle.ason_base.proofs.{Ordered.there-any, LspOrder.same_fibre-refl}
use Rattle.mesh_nodes.proofs.LegList.{found-all, found-lsp}
use Rattle.lsp_laws.specs.HopLaw.{leg_at}
use Rattle.lsp_laws.proofs.{hops.HopLaws.step_facts, hops.Planned.{Routes, or_assoc}, hops.Plans.{IsPlanRoute, plan, route_made}, hops.Run.{Carried, step_carries, step_routes}, nodes.Facts.MeshFacts, nodes.NodeRuns.{facts-hold, facts-step}}
use Rattle.mesh_laws.specs.{RestedLaw.IsOfCall, RestorationLaw.{is_link_cut, is_route_cut}, RetryLaw.IsLeftAlone, SetupAloneLaw.AreWavelengths}
use Rattle.mesh_laws.proofs.{acts.Given.given-followed, assigned.Begun.{next_of, order_of, sent-route, setting-begins, unnamed, well-begins}, assigned.Free.{WellMesh, never-refused, well-on}, assigned.Setting.{Setting, sets-on}, reports.Desks.every_desk_tells, rested.Rested.nothing_left_at_rest, retried.Pending.{Pending, pends-on}, surveyed.Rows.find-contains}

-- Routes of a run in two parts

pub route-append : (t : Network) (s : Mesh) (a b : List MeshEvent) (l : Lsp) →
    route_of t s (a ++ b) l ≡ or_route (route_of t s a l) (route_of t (after t s a) b l)
route-append t s [] b l = refl
route-append t s (e ∷ a) b l =
    ap (or_route (first_route l (sent_at_ingress t s e l))) (route-append t (step t s e) a b l)
    ∙ sym (or_assoc (first_route l (sent_at_ingress t s e l)) (route_of t (step t s e) a l) (route_of t (after t (step t s e) a) b l))

-- Links

end-touches : (link : LinkSpec) (n : NodeId) → touches (other_end link n) link ≡ true
end-touches link n = go (nat_eq link.low.0 n.0)
  where
    itself : (a : ℕ) → nat_eq a a ≡ true
    itself a = grind arith

    go : (b : Bool) → touches (cond b link.high link.low) link ≡ true
    go true = right (nat_eq link.low.0 link.high.0) (nat_eq link.high.0 link.high.0) (itself link.high.0)
      where
        right : (a b : Bool) → b ≡ true → (a || b) ≡ true
        right true b e = refl
        right false b e = e
    go false = ap (λ b. b || nat_eq link.high.0 link.low.0) (itself link.low.0)

not-cut : (t : Network) (failed : List Group) (route : List Step) →
    list_any (λ hop. is_link_cut failed (find_link t hop.link)) route ≡ false →
    (i : ℕ) (hop : Step) (link : LinkSpec) → slice_get route i ≡ Some hop → find_link t hop.link ≡ Some link →
    is_cut failed link ≡ false
not-cut t failed [] up i hop link there found = absurd (cc there)
not-cut t failed (h ∷ route) up zero hop link there found =
    let is : h ≡ hop = cc there in
    let none : is_link_cut failed (find_link t h.link) ≡ false = left (is_link_cut failed (find_link t h.link)) _ up in
    let here : is_link_cut failed (find_link t hop.link) ≡ false =
    subst (λ (q : Step). is_link_cut failed (find_link t q.link) ≡ false) is none in
    subst (λ o. is_link_cut failed o ≡ false) found here
  where
    left : (a b : Bool) → (a || b) ≡ false → a ≡ false
    left true b e = absurd (cc e)
    left false b e = refl
not-cut t failed (h ∷ route) up (suc i) hop link there found =
    not-cut t failed route (right (is_link_cut failed (find_link t h.link)) _ up) i hop link there found
  where
    right : (a b : Bool) → (a || b) ≡ false → b ≡ false
    right true b e = absurd (cc e)
    right false b e = e

there-link : (o : Option LinkSpec) → is_link_there o ≡ true → (out : LinkSpec) × (o ≡ Some out)
there-link None e = absurd (cc e)
there-link (Some out) e = (out, refl)

first-own : (b : Bool) (o : Option LinkSpec) (out : LinkSpec) → cond b o None ≡ Some out → o ≡ Some out
first-own true o out e = e
first-own false o out e = absurd (cc e)

-- The run, from the state s on, in which it was ordered

module _ (t : Network) (valid : IsTopology t) (before : List MeshEvent) (run : IsRun t start before)
    (quiet : IsQuiet (after t start before)) (k : CallNo) (n to : NodeId) (hop : Step) (further : List Step)
    (new : find_call k ((after t start before).nodes n.0).calls ≡ None)
    (up : is_route_cut t (after t start before).failed (Some (hop ∷ further)) ≡ false)
    (lsp : ((after t start before).nodes n.0).lsp ≤ LAST_NUMBER)
    (tunnel : ((after t start before).nodes n.0).tunnel ≤ LAST_NUMBER)
    (room : (m : ℕ) → length ((after t start before).nodes m).legs < MOST_LEGS)
    (made : makes_route t n to (hop ∷ further) ≡ true) (apart : n.0 ≢ to.0) where
  abbrev old : Mesh
  old = after t start before

  abbrev way : List Step
  way = hop ∷ further

  abbrev l : Lsp
  l = next_of (after t start before) n

  pub facts_old : MeshFacts t (after t start before)
  facts_old = facts-hold t before run

  is_route : IsPlanRoute t n (plan (hop ∷ further) to)
  is_route = route_made t n to (hop ∷ further) (omega arith) made

  away : nat_eq to.0 n.0 ≡ false
  away = grind (arith, apart)

  abbrev the_first : (out : LinkSpec) × (first_link (local_node t n) (hop ∷ further) ≡ Some out)
  the_first = there-link (first_link (local_node t n) (hop ∷ further)) (given-followed t valid n to (hop ∷ further) apart made)

  over : own_link (local_node t n) hop.link ≡ Some the_first.0
  over = first-own _ (own_link (local_node t n) hop.link) the_first.0 the_first.1

  pub fresh : (d : NodeId) (g : Leg) → leg_at (after t start before) (next_of (after t start before) n) d ≡ Some g → ⊥
  fresh d g here =
      let own : g.lsp ≡ l = found-lsp l (old.nodes d.0).legs g here in
      let of : IsOfCall old g = found-all (IsOfCall old) l (old.nodes d.0).legs g here
      (recursion_from_All (IsOfCall old) (old.nodes d.0).legs ((nothing_left_at_rest t before run quiet).legs d.0)) in
      unnamed t valid old facts_old k n to hop further the_first.0 the_first.1 over is_route.first away new lsp tunnel (room n.0)
      of.call.call of.call
      (subst (λ (q : Lsp). find_call of.call.call (old.nodes q.ingress.0).calls ≡ Some of.call) own of.there)
      (subst (λ q. names q of.call ≡ true) own of.named)

  not-down : (i : ℕ) (h : Step) (link : LinkSpec) → slice_get (hop ∷ further) i ≡ Some h →
      find_link t h.link ≡ Some link →
      Contains ((after t start before).nodes (other_end link h.node).0).down (fibre_in link (other_end link h.node)) → ⊥
  not-down i h link there found down =
      let d : NodeId = other_end link h.node in
      let known : has_fibre (old.nodes d.0).down (fibre_in link d) ≡ is_cut old.failed link =
      (let told = every_desk_tells t before valid run d link (find-contains _ t.links link found) (end-touches link h.node) in
      rw (quiet.desks d.0) at told) in
      let has : has_fibre (old.nodes d.0).down (fibre_in link d) ≡ true =
      there-any (same_fibre (fibre_in link d)) (old.nodes d.0).down (fibre_in link d) down (same_fibre-refl (fibre_in link d)) in
      let whole = not-cut t old.failed (hop ∷ further) up i h link there found in
      absurd (let never : true ≡ false = sym has ∙ known ∙ whole in cc never)

  abbrev item : DeskItem
  item = order_of k n to (hop ∷ further)

  -- what comes of it, whatever the route has
  set-run : (now : Mesh) (events : List MeshEvent) → MeshFacts t now →
      Setting (Unit {0}) t (after t start before) (next_of (after t start before) n) k n now → IsRun t now events →
      AllByRecursion (IsLeftAlone t (after t start before)) events →
      Setting (Unit {0}) t (after t start before) (next_of (after t start before) n) k n (after t now events)
  set-run now [] facts setting run only = setting
  set-run now (e ∷ events) facts setting run only =
      set-run (step t now e) events (facts-step t now e run.0 facts)
      (sets-on (Unit {0}) t old l k n refl now facts setting e only.0 run.0 (λ u d m ms first err. tt)) run.1 only.1

  pub pend-run : (now : Mesh) (events : List MeshEvent) → MeshFacts t now →
      Pending (after t start before) n (order_of k n to (hop ∷ further)) now → IsRun t now events →
      AllByRecursion (IsLeftAlone t (after t start before)) events →
      Pending (after t start before) n (order_of k n to (hop ∷ further)) (after t now events)
      ⊎ (Setting (Unit {0}) t (after t start before) (next_of (after t start before) n) k n (after t now events)
      × (route_of t now events (next_of (after t start before) n) ≡ Some (hop ∷ further)))
  pend-run now [] facts pending run only = inl pending
  pend-run now (e ∷ events) facts pending run only =
      go (pends-on t old n item now pending e only.0 run.0)
      (λ more. pend-run (step t now e) events (facts-step t now e run.0 facts) more run.1 only.1)
    where
      go : (Pending old n item (step t now e) × ((j : Lsp) → sent_at_ingress t now e j ≡ []))
          ⊎ ((e ≡ Desk n) × (step t now e ≡ commit (without_item now n.0) n.0 (on_item (local_node t n) (now.nodes n.0) item))) →
          (Pending old n item (step t now e) → Pending old n item (after t (step t now e) events)
          ⊎ (Setting (Unit {0}) t old l k n (after t (step t now e) events)
          × (route_of t (step t now e) events l ≡ Some (hop ∷ further)))) →
          Pending old n item (after t (step t now e) events)
          ⊎ (Setting (Unit {0}) t old l k n (after t (step t now e) events)
          × (route_of t now (e ∷ events) l ≡ Some (hop ∷ further)))
      go (inl still) more = elim (more still.0) [
        | inl pending ↦ inl pending
        | inr both ↦ inr (
          both.0,
          ap (λ outs. or_route (first_route l outs) (route_of t (step t now e) events l)) (still.1 l) ∙ both.1,
        )
      ]
      go (inr handled) more = inr (
        set-run (step t now e) events (facts-step t now e run.0 facts)
            (subst (Setting (Unit {0}) t old l k n) (sym handled.1)
            (setting-begins t valid old facts_old k n to hop further the_first.0 the_first.1 over is_route.first away new lsp tunnel
            (room n.0) now pending (Unit {0}))) run.1 only.1,
        subst (λ q. or_route (first_route l (sent_at_ingress t now q l)) (route_of t (step t now e) events l) ≡ Some (hop ∷ further))
            (sym handled.0)
            (sent-route t valid old facts_old k n to hop further the_first.0 the_first.1 over is_route.first away new lsp tunnel
            (room n.0) now pending (route_of t (step t now e) events l)),
      )

  -- where the route has wavelengths, it is never refused
  module _ (x : ℕ → ℕ) (fits : AreWavelengths t (after t start before) (hop ∷ further) x) where
    well-run : (now : Mesh) (events : List MeshEvent) (o : Routes) → MeshFacts t now → Carried t now o →
        Setting ⊥ t (after t start before) (next_of (after t start before) n) k n now →
        WellMesh t (after t start before) (next_of (after t start before) n) (hop ∷ further) x now → IsRun t now events →
        AllByRecursion (IsLeftAlone t (after t start before)) events →
        Setting ⊥ t (after t start before) (next_of (after t start before) n) k n (after t now events)
    well-run now [] o facts along setting well run only = setting
    well-run now (e ∷ events) o facts along setting well run only =
        well-run (step t now e) events (step_routes t now e o) (facts-step t now e run.0 facts)
        (step_carries t now e o run.0 (step_facts t now facts) along)
        (sets-on ⊥ t old l k n refl now facts setting e only.0 run.0
        (never-refused t valid old facts_old l fresh way x fits not-down room k n refl now facts o along.follows setting well))
        (well-on t valid old facts_old l fresh way x fits not-down room k n refl now facts o along.follows setting well e only.0 run.0)
        run.1 only.1

    pub pend-well : (now : Mesh) (events : List MeshEvent) (o : Routes) → MeshFacts t now → Carried t now o →
        Pending (after t start before) n (order_of k n to (hop ∷ further)) now → IsRun t now events →
        AllByRecursion (IsLeftAlone t (after t start before)) events →
        Pending (after t start before) n (order_of k n to (hop ∷ further)) (after t now events)
        ⊎ Setting ⊥ t (after t start before) (next_of (after t start before) n) k n (after t now events)
    pend-well now [] o facts along pending run only = inl pending
    pend-well now (e ∷ events) o facts along pending run only =
        go (pends-on t old n item now pending e only.0 run.0)
        (λ more. pend-well (step t now e) events (step_routes t now e o) (facts-step t now e run.0 facts)
        (step_carries t now e o run.0 (step_facts t now facts) along) more run.1 only.1)
      where
        go : (Pending old n item (step t now e) × ((j : Lsp) → sent_at_ingress t now e j ≡ []))
            ⊎ ((e ≡ Desk n) × (step t now e ≡ commit (without_item now n.0) n.0 (on_item (local_node t n) (now.nodes n.0) item))) →
            (Pending old n item (step t now e) → Pending old n item (after t (step t now e) events)
            ⊎ Setting ⊥ t old l k n (after t (step t now e) events)) →
            Pending old n item (after t (step t now e) events) ⊎ Setting ⊥ t old l k n (after t (step t now e) events)
        go (inl still) more = more still.0
        go (inr handled) more = inr (well-run (step t now e) events (step_routes t now e o) (facts-step t now e run.0 facts)
            (step_carries t now e o run.0 (step_facts t now facts) along)
            (subst (Setting ⊥ t old l k n) (sym handled.1)
            (setting-begins t valid old facts_old k n to hop further the_first.0 the_first.1 over is_route.first away new lsp tunnel
            (room n.0) now pending ⊥))
            (subst (WellMesh t old l way x) (sym handled.1)
            (well-begins t valid old facts_old k n to hop further the_first.0 the_first.1 over is_route.first away new lsp tunnel
            (room n.0) now pending fresh x fits)) run.1 only.1)
