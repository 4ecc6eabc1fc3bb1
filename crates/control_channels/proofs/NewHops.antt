-- A new controller keeps a hop to each neighbour.
use Rattle.std.proofs.Common.{◌≡◌, ◌≤◌, ◌*◌, ℕ, suc, Bool, true, false, cond, List, [], ◌∷◌, length, map, refl, sym, ap, subst, arith}
use Rattle.std.specs.Prelude.{◌&&◌, filter, nat_le}
use Rattle.ason_base.specs.{declared.limits.TheConstants.{MOST_LINKS, MOST_NODES}, declared.ids.NodeId.NodeId, declared.network.LinkSpec.LinkSpec, Network.{IsTopology, Network, other_end, touches}}
use Rattle.hop_reliable.specs.Hop.{HopState}
use Rattle.mesh_rules.specs.LocalNodes.{LocalNode, local_node}
use Rattle.control_channels.specs.{declared.adjacencies.Adjacency.Adjacency, Adjacencies.{CanGoAgain, neighbours, new_adjacency, rested}, ReadyControllers.IsKeptAfter}
use Rattle.control_channels.proofs.{Reaching.{hop-new, peers-new}, Keeping.order-few}

-- of a node of a topology
ends-few : (n : NodeId) (ls : List LinkSpec) → length (filter (touches n) ls) ≤ length ls
ends-few n [] = omega arith
ends-few n (l ∷ ls) = go (touches n l) (ends-few n ls)
  where
    go : (b : Bool) → length (filter (touches n) ls) ≤ length ls →
        length (cond b (l ∷ filter (touches n) ls) (filter (touches n) ls)) ≤ suc (length ls)
    go true h = omega arith
    go false h = omega arith

map-few : (f : LinkSpec → ℕ) (ls : List LinkSpec) → length (map f ls) ≤ length ls
map-few f [] = omega arith
map-few f (l ∷ ls) = let later : length (map f ls) ≤ length ls = map-few f ls in omega arith

few-links : (a b c d : ℕ) → a ≤ b → b ≤ c → c ≤ d → d ≤ MOST_LINKS → a ≤ MOST_LINKS
few-links a b c d h k l m = omega arith

at-most : (x : ℕ) → nat_le x MOST_LINKS ≡ true → x ≤ MOST_LINKS
at-most x e = grind arith

both : (a b c : Bool) → (a && (b && c)) ≡ true → c ≡ true
both true true c h = h
both true false c h = absurd (cc h)
both false b c h = absurd (cc h)

pub new-kept : (t : Network) (n : NodeId) → IsTopology t →
    IsKeptAfter (local_node t n) (map new_adjacency (neighbours (local_node t n))) 0
new-kept t n valid = record {
  peers = peers-new (neighbours p);
  narrow = few-links (length (neighbours p)) (length ends) (length p.own) (length t.links) (order-few ends)
      (map-few (λ l. (other_end l p.id).0) p.own) (ends-few n t.links)
      (at-most (length t.links) (both (nat_le 1 (length t.nodes)) (nat_le (length t.nodes) MOST_NODES)
      (nat_le (length t.links) MOST_LINKS) valid.count));
  again = λ d. subst CanGoAgain (sym (hop-new (neighbours p) d)) tt;
  few = λ d. subst (λ (h : HopState). h.sent ≤ 65536 * 0) (sym (hop-new (neighbours p) d)) (omega arith);
  waiting = λ d. subst (λ (h : HopState). length h.unacked ≤ h.sent) (sym (hop-new (neighbours p) d)) (omega arith);
  rest = rests (neighbours p);
}
  where
    p : LocalNode
    p = local_node t n

    ends : List ℕ
    ends = map (λ l. (other_end l p.id).0) p.own

    rests : (ns : List ℕ) → map rested (map new_adjacency ns) ≡ map new_adjacency ns
    rests [] = refl
    rests (m ∷ ns) = ap (λ xs. new_adjacency m ∷ xs) (rests ns)

pub kept-of : (t : Network) (n : NodeId) (xs : List Adjacency) → IsTopology t →
    xs ≡ map new_adjacency (neighbours (local_node t n)) →
    IsKeptAfter (local_node t n) xs 0
kept-of t n xs valid e = subst (λ ys. IsKeptAfter (local_node t n) ys 0) (sym e) (new-kept t n valid)
