-- Who is a neighbour, and that nothing that goes to neighbours alone goes to another node.
use Rattle.std.proofs.Common.{◌≡◌, ℕ, Bool, true, false, cond, not, nat_eq, List, [], ◌∷◌, filter, refl, subst, arith}
use Rattle.std.specs.{Prelude.{◌&&◌, ◌||◌}, List.{AllByRecursion, list_any}}
use Rattle.ason_base.specs.{Network.{IsTopology, Network, are_ends, is_node_id, other_end, touches}, declared.ids.NodeId.NodeId, declared.network.LinkSpec.LinkSpec, declared.tables.Out.Out}
use Rattle.mesh_rules.specs.{LocalNodes.{LocalNode, local_node}, Machine.sent_to}
use Rattle.mesh_rules.proofs.LinkNews.{HasEnds, all-ends}
use Rattle.mesh_nodes.specs.{LocalNodes.is_neighbour, Sent.AllToNeighbours}
use Rattle.mesh_laws.specs.HomeLaw.{are_neighbours}

-- the two nodes are the ends of the link, where the one is an end and the other the other end
joins : (t : Network) (l : LinkSpec) → HasEnds t.nodes l → (u d : NodeId) → touches u l ≡ true →
    nat_eq (other_end l u).0 d.0 ≡ true →
    (is_node_id t.nodes u ≡ true) × (is_node_id t.nodes d ≡ true) × (nat_eq u.0 d.0 ≡ false)
    × (are_ends l.low l.high u d ≡ true)
joins t l ends u d touch other = go (nat_eq l.low.0 u.0) refl touch other
  where
    same-id : (m n : NodeId) → m.0 ≡ n.0 → is_node_id t.nodes m ≡ true → is_node_id t.nodes n ≡ true
    same-id m n e is = subst (λ k. is_node_id t.nodes (record { 0 = k }) ≡ true) e is

    go : (b : Bool) → nat_eq l.low.0 u.0 ≡ b → (b || nat_eq l.high.0 u.0) ≡ true →
        nat_eq (cond b l.high l.low).0 d.0 ≡ true →
        (is_node_id t.nodes u ≡ true) × (is_node_id t.nodes d ≡ true) × (nat_eq u.0 d.0 ≡ false)
        × (are_ends l.low l.high u d ≡ true)
    go true e touch other =
        let low : l.low.0 ≡ u.0 = grind (arith, e) in
        let high : l.high.0 ≡ d.0 = grind (arith, other) in
        let apart : nat_eq l.low.0 l.high.0 ≡ false = ends.apart in (
          same-id l.low u low ends.low,
          same-id l.high d high ends.high,
          rw (← low, ← high) apart,
          rw (e, other) refl,
        )
    go false e touch other =
        let high : l.high.0 ≡ u.0 = grind (arith, touch) in
        let low : l.low.0 ≡ d.0 = grind (arith, other) in
        let apart : nat_eq l.high.0 l.low.0 ≡ false = turn l.low.0 l.high.0 ends.apart in (
          same-id l.high u high ends.high,
          same-id l.low d low ends.low,
          rw (← high, ← low) apart,
          rw (e, other, touch) refl,
        )
      where
        turn : (a b : ℕ) → nat_eq a b ≡ false → nat_eq b a ≡ false
        turn a b e = grind (arith, e)

-- Nodes that aren't so are no neighbours to either.
pub not-near : (t : Network) (u d : NodeId) → IsTopology t → are_neighbours t u d ≡ false →
    is_neighbour (local_node t u) d ≡ false
not-near t u d valid none = go t.links (all-ends t valid) (λ one. one)
  where
    no-way : (is_node_id t.nodes u && is_node_id t.nodes d && not (nat_eq u.0 d.0)
        && list_any (λ l. are_ends l.low l.high u d) t.links) ≡ false
    no-way = none

    go : (links : List LinkSpec) → AllByRecursion (HasEnds t.nodes) links →
        (list_any (λ l. are_ends l.low l.high u d) links ≡ true →
        list_any (λ l. are_ends l.low l.high u d) t.links ≡ true) →
        list_any (λ l. nat_eq (other_end l u).0 d.0) (filter (touches u) links) ≡ false
    go [] ends inside = refl
    go (l ∷ links) ends inside =
        one (touches u l) refl (nat_eq (other_end l u).0 d.0) refl
        (go links ends.1 (λ is. inside (right (are_ends l.low l.high u d)
        (list_any (λ l. are_ends l.low l.high u d) links) is)))
      where
        right : (a b : Bool) → b ≡ true → (a || b) ≡ true
        right true b e = refl
        right false b e = e

        left : (a b : Bool) → a ≡ true → (a || b) ≡ true
        left true b e = refl
        left false b e = absurd (cc (e))

        all : (a b c d : Bool) → a ≡ true → b ≡ true → c ≡ false → d ≡ true → (a && b && not c && d) ≡ true
        all a b c d e f g h = rw (e, f, g, h) refl

        one : (a : Bool) → touches u l ≡ a → (b : Bool) → nat_eq (other_end l u).0 d.0 ≡ b →
            list_any (λ l. nat_eq (other_end l u).0 d.0) (filter (touches u) links) ≡ false →
            list_any (λ l. nat_eq (other_end l u).0 d.0) (cond a (l ∷ filter (touches u) links)
            (filter (touches u) links)) ≡ false
        one false e b f rest = rest
        one true e false f rest = rw f rest
        one true e true f rest =
            let j = joins t l ends.0 u d e f in
            let there : list_any (λ l. are_ends l.low l.high u d) t.links ≡ true =
            inside (left (are_ends l.low l.high u d) (list_any (λ l. are_ends l.low l.high u d) links) j.3) in
            absurd (cc (
              no-way,
              all (is_node_id t.nodes u) (is_node_id t.nodes d) (nat_eq u.0 d.0)
                  (list_any (λ l. are_ends l.low l.high u d) t.links) j.0 j.1 j.2 there,
            ))

-- what goes to neighbours alone has nothing for a node that is none
pub none-sent : (p : LocalNode) (d : NodeId) → is_neighbour p d ≡ false → (outs : List Out) → AllToNeighbours p outs →
    sent_to d.0 outs ≡ []
none-sent p d far [] near = refl
none-sent p d far (o ∷ outs) near = go (nat_eq o.to.0 d.0) refl (none-sent p d far outs near.1)
  where
    go : (b : Bool) → nat_eq o.to.0 d.0 ≡ b → sent_to d.0 outs ≡ [] → sent_to d.0 (o ∷ outs) ≡ []
    go true e rest =
        let same : o.to.0 ≡ d.0 = grind (arith, e) in
        absurd (cc (far, subst (λ k. is_neighbour p (record { 0 = k }) ≡ true) same near.0))
    go false e rest = rw e rest
