-- A route that is found over rows of a network makes a route of it.
use Rattle.std.proofs.{Common.{◌≡◌, ◌⊎◌, inl, inr, ℕ, Bool, true, false, cond, nat_eq, List, [], ◌∷◌, ◌++◌, filter, refl, sym, ap, ◌∙◌}, lemmas.Bool.{and_from, or_right, or_left}}
use Rattle.std.specs.Prelude.{Some, None, fold}
use Rattle.ason_base.specs.{Network.{Network, find_link, is_distinct, other_end, touches}, Routes.{across, is_end, makes_route, nodes_of, one_step, route_end}, Walks.{HaveMetrics, WalkStep, IsWalk, Joins, NoLink, NoNode}, declared.ids.NodeId.NodeId, declared.network.LinkSpec.LinkSpec, declared.network.TeRow.TeRow, declared.steps.Step.Step}
use Rattle.ason_base.proofs.{Bridges.same_node, Members.kept-there}
use Rattle.mesh_rules.specs.{declared.limits.TheConstants.MOST_LINKS_OF_ROUTE, LeastRoutes.{Trip, is_backup_route, least_backup, least_trip, trips}}
use Rattle.mesh_nodes.specs.Routes.{AreRowsOf, IsRowOf}
use Rattle.mesh_nodes.proofs.{routes.Backups.least_backup-once, routes.Found.least_trip-once, routes.Least.chosen-is, routes.Walked.{each-leads, node_test}}

-- the link joins the two nodes, whichever of them is the low end
abbrev LinkJoins : LinkSpec → NodeId → NodeId → Type 0
LinkJoins l a b = ((l.low ≡ a) × (l.high ≡ b)) ⊎ ((l.high ≡ a) × (l.low ≡ b))

joins-link : (row : TeRow) (l : LinkSpec) (a b : NodeId) → row.low ≡ l.low → row.high ≡ l.high → Joins row a b →
    LinkJoins l a b
joins-link row l a b low high (inl up) = inl (sym low ∙ up.0, sym high ∙ up.1)
joins-link row l a b low high (inr down) = inr (sym high ∙ down.0, sym low ∙ down.1)

far : (l : LinkSpec) (a b : NodeId) → LinkJoins l a b → other_end l a ≡ b
far l a b (inl up) = ap (λ c. cond c l.high l.low) (node_test l.low a up.0) ∙ up.1
far l a b (inr down) = by_test (nat_eq l.low.0 a.0) refl
  where
    by_test : (c : Bool) → nat_eq l.low.0 a.0 ≡ c → cond c l.high l.low ≡ b
    by_test true e = down.0 ∙ sym (same_node l.low a e) ∙ down.1
    by_test false e = down.1

touches-end : (l : LinkSpec) (a b : NodeId) → LinkJoins l a b → touches a l ≡ true
touches-end l a b (inl up) = or_left (nat_eq l.low.0 a.0) (nat_eq l.high.0 a.0) (node_test l.low a up.0)
touches-end l a b (inr down) = or_right (nat_eq l.low.0 a.0) (nat_eq l.high.0 a.0) (node_test l.high a down.0)

-- one step
crosses : (t : Network) (rows : List TeRow) (a b : NodeId) (s : Step) (row : TeRow) → AreRowsOf t rows →
    WalkStep rows NoLink NoNode a s row b → one_step t (Some a) s ≡ Some b
crosses t rows a b s row are hop =
    let is : IsRowOf t row = are row hop.known in
    let joins = joins-link row is.link a b (ap (λ (r : TeRow). r.low) is.is)
    (ap (λ (r : TeRow). r.high) is.is) hop.joins in
    let found : find_link t s.link ≡ Some is.link = ap (find_link t) hop.link ∙ is.found in
    ap (λ c. cond c (across (find_link t s.link) a) None) (node_test s.node a hop.sender)
    ∙ ap (λ o. across o a) found
    ∙ ap (λ c. cond c (Some (other_end is.link a)) None) (touches-end is.link a b joins)
    ∙ ap Some (far is.link a b joins)

-- and all of them
leads-there : (t : Network) (rows : List TeRow) → AreRowsOf t rows →
    (b : NodeId) (steps : List Step) (a : NodeId) (cost : ℕ) →
    IsWalk rows NoLink NoNode a b steps cost → route_end t a steps ≡ Some b
leads-there t rows are b [] a cost walk = ap Some walk.0
leads-there t rows are b (s ∷ steps) a cost walk =
    ap (λ o. fold (one_step t) o steps) (crosses t rows a walk.1 s walk.0 are walk.3) ∙
    leads-there t rows are b steps walk.1 walk.2 walk.4

-- a walk over the rows that visits no node twice
walk-makes : (t : Network) (rows : List TeRow) (a b : NodeId) (r : Trip) → AreRowsOf t rows →
    IsWalk rows NoLink NoNode a b r.steps r.cost → is_distinct (nodes_of r.steps ++ b.0 ∷ []) ≡ true →
    makes_route t a b r.steps ≡ true
walk-makes t rows a b r are walk once =
    and_from (is_end (route_end t a r.steps) b) (is_distinct (nodes_of r.steps ++ b.0 ∷ []))
    (ap (λ o. is_end o b) (leads-there t rows are b r.steps a r.cost walk) ∙ node_test b b refl) once

pub found-over : (t : Network) (rows : List TeRow) (a b : NodeId) (r : Trip) → AreRowsOf t rows → HaveMetrics rows →
    least_trip rows a b ≡ Some r → makes_route t a b r.steps ≡ true
found-over t rows a b r are metrics e =
    let is = chosen-is (trips rows MOST_LINKS_OF_ROUTE a b) r e in
    walk-makes t rows a b r are (each-leads rows MOST_LINKS_OF_ROUTE a b r is.there).0
    (least_trip-once rows a b r metrics e)

-- the least backup is one of the walks too
pub backup-over : (t : Network) (rows : List TeRow) (primary : List Step) (a b : NodeId) (r : Trip) → AreRowsOf t rows →
    HaveMetrics rows → least_backup rows primary a b ≡ Some r → makes_route t a b r.steps ≡ true
backup-over t rows primary a b r are metrics e =
    let test : Trip → Bool = λ x. is_backup_route rows primary a b x.steps in
    let is = chosen-is (filter test (trips rows MOST_LINKS_OF_ROUTE a b)) r e in
    let kept = kept-there test (trips rows MOST_LINKS_OF_ROUTE a b) r is.there in
    walk-makes t rows a b r are (each-leads rows MOST_LINKS_OF_ROUTE a b r kept.0).0
    (least_backup-once rows primary a b r metrics e)
