-- Potentials, listed by the order of nodes.
use Rattle.std.specs.{Prelude.{◌≡◌, ◌<◌, ℕ, List, Option, Some}, List.{AllPairs, Contains}}
use Rattle.ason_base.specs.declared.ids.NodeId.{NodeId}
use Rattle.route_least.specs.{declared.order.NodePlace.NodePlace, Costs.cost_at}

abbrev pub AreNodesRising : List NodePlace → Type 0
AreNodesRising order = AllPairs (λ x y. x.node.0 < y.node.0) order

-- the entries are those of the order whose place has a cost, with that cost
pub record AreListed (order : List NodePlace) (costs : List (Option ℕ)) (entries : List (NodeId × ℕ)) : Type 0 where
  pub rising : AllPairs (λ x y. x.0.0 < y.0.0) entries
  pub sound : (n : NodeId) (cost : ℕ) → Contains entries (n, cost) → (e : NodePlace) × Contains order e ×
      (e.node ≡ n) × (cost_at costs e.place ≡ Some cost)
  pub complete : (e : NodePlace) (cost : ℕ) → Contains order e → cost_at costs e.place ≡ Some cost →
      Contains entries (e.node, cost)
