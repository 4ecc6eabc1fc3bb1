-- What searches in a prepared network give.
use Rattle.std.specs.Prelude.{◌≡◌, ◌≢◌, ℕ, ◌<◌, List, [], ◌∷◌, All, Bool, true, Option, Some, length}
use Rattle.ason_base.specs.declared.ids.NodeId.{NodeId}
use Rattle.route_least.specs.{declared.answers.Found.Found, declared.answers.RouteFault.RouteFault, declared.answers.RouteFault.TheVariants.{NoRoute, OutOfMemory}, declared.network.RouteNetwork.RouteNetwork, declared.places.Place.Place, Costs.{cost_at, is_place_marked, AreLeast}, Marking.Crosses, Network.{AreOnce, AreSound, Goes, HasNode}, Potentials.{AreListed, AreNodesRising}, Trace.{AreMarked, IsTraced}}

-- what a search needs of a network
pub record IsSearchable (rows : ℕ) (network : RouteNetwork) : Type 0 where
  pub sound : AreSound rows network.places.items
  pub once : AreOnce network.places.items
  pub rising : AreNodesRising network.order.items
  pub within : All (λ e. e.place < length network.places.items) network.order.items

-- however places are marked from which tight arcs lead to the end, the start is marked
abbrev pub IsReached : List Place → List Bool → List (Option ℕ) → ℕ → ℕ → Type 0
IsReached places closed costs from to = (marks : List Bool) → AreMarked (Crosses places closed) costs to marks →
    is_place_marked marks from ≡ true

-- from a node without a row
pub record IsFoundAlone (from to : NodeId) (found : Found) : Type 0 where
  pub same : from ≡ to
  pub route : found.route ≡ []
  pub cost : found.cost ≡ 0
  pub potential : found.potential ≡ (from, 0) ∷ []

abbrev pub IsMissedAlone : NodeId → NodeId → RouteFault → Type 0
IsMissedAlone from to (NoRoute potential) = (from ≢ to) × (potential ≡ (from, 0) ∷ [])
IsMissedAlone from to OutOfMemory = Unit {0}

-- the table of least costs from the start, and the potentials that are read off it
pub record AreCostsFrom (network : RouteNetwork) (closed : List Bool) (banned : List NodeId) (start : ℕ)
    (potential : List (NodeId × ℕ)) (costs : List (Option ℕ)) : Type 0 where
  pub least : AreLeast (Goes network.places.items closed banned) start costs
  pub listed : AreListed network.order.items costs potential

-- from the start of this place
pub record IsFoundFrom (network : RouteNetwork) (closed : List Bool) (banned : List NodeId) (start : ℕ) (to : NodeId)
    (found : Found) : Type 0 where
  pub costs : List (Option ℕ)
  pub are : AreCostsFrom network closed banned start found.potential costs
  pub end : ℕ
  pub there : HasNode network.places.items end to
  pub has : cost_at costs end ≡ Some found.cost
  pub traced : IsTraced (Crosses network.places.items closed) costs network.places.items start end found.route

pub record IsMissed (network : RouteNetwork) (closed : List Bool) (banned : List NodeId) (start : ℕ) (to : NodeId)
    (potential : List (NodeId × ℕ)) : Type 0 where
  pub costs : List (Option ℕ)
  pub are : AreCostsFrom network closed banned start potential costs
  pub none : (p cost : ℕ) → HasNode network.places.items p to → cost_at costs p ≡ Some cost → ⊥

abbrev pub IsMissedFrom : RouteNetwork → List Bool → List NodeId → ℕ → NodeId → RouteFault → Type 0
IsMissedFrom network closed banned start to (NoRoute potential) = IsMissed network closed banned start to potential
IsMissedFrom network closed banned start to OutOfMemory = Unit {0}
