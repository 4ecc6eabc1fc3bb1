-- A route that a valid setup gives can be followed from its first node.
use Rattle.std.proofs.Common.{◌≡◌, ◌≢◌, ◌<◌, ◌≤◌, ◌+◌, ℕ, suc, Bool, true, false, cond, nat_eq, List, [], ◌∷◌, map, length, refl, sym, subst, arith, inl, inr}
use Rattle.std.specs.Prelude.{◌||◌, Some}
use Rattle.mesh_rules.specs.{declared.limits.TheConstants.MOST_LINKS_OF_ROUTE, LocalNodes.{local_node, own_link}, Setups.is_followable}
use Rattle.ason_base.specs.{Network.{IsTopology, Network, other_end, row_of, touches}, Routes.makes_route, Walks.{IsWalk, Joins, NoLink, NoNode}, declared.ids.NodeId.NodeId, declared.network.LinkSpec.LinkSpec, declared.steps.Step.Step}
use Rattle.mesh_nodes.proofs.{routes.Nodes.find-there, routes.Shorter.few_links, routes.Topologies.rows-searchable, routes.Walked.node_test}
use Rattle.lsp_laws.proofs.hops.Plans.{IsPlanRoute, LinkLeads, link_at, node_at, own_near, plan, route_made}
use Rattle.ason_base.proofs.{Numbers.less-by_test, Bools.and-right, Members.there-map, JoinedEnds.same-node}

joins-ends : (l : LinkSpec) (a b : NodeId) → touches a l ≡ true → other_end l a ≡ b → Joins (row_of l) a b
joins-ends l a b on far = go (nat_eq l.low.0 a.0) (nat_eq l.high.0 a.0) refl refl on far
  where
    go : (x y : Bool) → nat_eq l.low.0 a.0 ≡ x → nat_eq l.high.0 a.0 ≡ y → (x || y) ≡ true →
        cond x l.high l.low ≡ b → Joins (row_of l) a b
    go true y low high on far = (let number : l.low.0 ≡ a.0 = grind arith in inl (same-node l.low a number, far))
    go false true low high on far = (let number : l.high.0 ≡ a.0 = grind arith in inr (same-node l.high a number, far))
    go false false low high on far = absurd (cc on)

walk-of : (t : Network) (to : NodeId) (route : List Step) → ((i : ℕ) → i < length route →
    LinkLeads t (link_at (plan route to) i) (node_at (plan route to) i) (node_at (plan route to) (suc i))) →
    (cost : ℕ) × IsWalk (map row_of t.links) NoLink NoNode (node_at (plan route to) 0) to route cost
walk-of t to [] links = (0, (refl, refl))
walk-of t to (h ∷ route) links =
    let over = links 0 (omega arith) in
    let rest = walk-of t to route (λ i below. links (suc i) (omega (arith, below))) in (
      (row_of over.link).metric + rest.0,
      (
        row_of over.link,
        node_at (plan route to) 0,
        rest.0,
        record {
          known = there-map row_of t.links over.link (find-there (λ m. nat_eq m.id.0 h.link.0) t.links over.link over.found);
          sender = refl;
          link = sym over.id;
          joins = joins-ends over.link h.node (node_at (plan route to) 0) over.touches over.far;
          link_allowed = λ x. x;
          node_allowed = λ x. x;
        },
        rest.1,
        refl,
      ),
    )

-- a route that a valid order gives can be followed from its ingress
pub given-followed : (t : Network) → IsTopology t → (from to : NodeId) (route : List Step) → from.0 ≢ to.0 →
    makes_route t from to route ≡ true → is_followable (local_node t from) (Some route) ≡ true
given-followed t valid from to [] away made = absurd (away (grind arith))
given-followed t valid from to (h ∷ route) away made =
    let is : IsPlanRoute t from (plan (h ∷ route) to) = route_made t from to (h ∷ route) (omega arith) made in
    let over = is.links 0 (omega arith) in
    let walk = walk-of t to (h ∷ route) is.links in
    let few : suc (length route) ≤ MOST_LINKS_OF_ROUTE =
    few_links (map row_of t.links) (rows-searchable t valid).ends h.node to (h ∷ route) walk.0 walk.1
    (and-right _ _ made) in
    let here : nat_eq h.node.0 from.0 ≡ true = node_test h.node from is.first in
    let own : own_link (local_node t from) h.link ≡ Some over.link =
    subst (λ n. own_link (local_node t n) h.link ≡ Some over.link) is.first
    (own_near t h.link h.node (node_at (plan route to) 0) over) in
    rw (here, less-by_test (length route) MOST_LINKS_OF_ROUTE few, own) refl
