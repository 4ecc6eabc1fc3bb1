-- The numbers of a topology's nodes are distinct.
use Rattle.std.proofs.Common.{◌≡◌, ◌<◌, ◌≤◌, ℕ, true, false, nat_eq, List, [], ◌∷◌, map, refl, ap, arith}
use Rattle.std.specs.{Prelude.◌||◌, List.list_any}
use Rattle.ason_base.specs.{declared.ids.NodeId.NodeId, declared.network.NodeSpec.NodeSpec, Network.{IsTopology, Network, is_distinct, is_node_id}}
use Rattle.world_rules.proofs.Numbered.{NodesRiseAbove, rises}

abbrev pub node_numbers : List NodeSpec → List ℕ
node_numbers nodes = map (λ (n : NodeSpec). n.id.0) nodes

none_equal : (n k : ℕ) (nodes : List NodeSpec) → n ≤ k → NodesRiseAbove k nodes →
    list_any (λ y. nat_eq y n) (node_numbers nodes) ≡ false
none_equal n k [] most rise = refl
none_equal n k (m ∷ nodes) most rise =
    let apart : nat_eq m.id.0 n ≡ false = (let above : k < m.id.0 = rise.0 in grind arith) in
    let later : n ≤ m.id.0 = (let above : k < m.id.0 = rise.0 in omega arith) in
    rw (apart, none_equal n m.id.0 nodes later rise.1) refl

distinct : (n : ℕ) (nodes : List NodeSpec) → NodesRiseAbove n nodes → is_distinct (node_numbers nodes) ≡ true
distinct n [] rise = refl
distinct n (m ∷ nodes) rise = rw (
  none_equal m.id.0 m.id.0 nodes (omega arith) rise.1,
  distinct m.id.0 nodes rise.1,
) refl

pub distinct_nodes : (t : Network) → IsTopology t → is_distinct (node_numbers t.nodes) ≡ true
distinct_nodes t valid = distinct 0 t.nodes (rises t valid)

-- a number is among them where it is that of a node
pub among : (nodes : List NodeSpec) (n : NodeId) →
    list_any (λ m. nat_eq m n.0) (node_numbers nodes) ≡ is_node_id nodes n
among [] n = refl
among (m ∷ nodes) n = ap (λ b. nat_eq m.id.0 n.0 || b) (among nodes n)
