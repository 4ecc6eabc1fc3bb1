-- What is told of a least route, and of none.
use Rattle.std.specs.{Prelude.{Bool, List, ℕ}, List.Contains}
use Rattle.ason_base.specs.{Walks.{ArePotentials, Certify, IsLeast, IsWalk}, declared.ids.LinkId.LinkId, declared.ids.NodeId.NodeId, declared.network.TeRow.TeRow, declared.steps.Step.Step}
use Rattle.route_least.specs.{Network.IsClosed, declared.answers.Found.Found, declared.answers.RouteFault.RouteFault, declared.answers.RouteFault.TheVariants.{NoRoute, OutOfMemory}}

-- no walk joins the two nodes, and the potentials are those of every node
pub record JoinsNone (rows : List TeRow) (BannedLink : LinkId → Type 0) (BannedNode : NodeId → Type 0)
    (from to : NodeId) (potentials : List (NodeId × ℕ)) : Type 0 where
  pub none : (route : List Step) (cost : ℕ) → ¬ IsWalk rows BannedLink BannedNode from to route cost
  pub potential : ArePotentials (IsWalk rows BannedLink BannedNode from) potentials
  pub certificate : Certify rows BannedLink BannedNode from potentials

abbrev pub IsRefusal : List TeRow → (LinkId → Type 0) → (NodeId → Type 0) → NodeId → NodeId → RouteFault → Type 0
IsRefusal rows BannedLink BannedNode from to (NoRoute potential) =
    JoinsNone rows BannedLink BannedNode from to potential
IsRefusal rows BannedLink BannedNode from to OutOfMemory = Unit {0}

-- of all walks that use no closed row and visit no banned node after their start the least one, its cost, and every
-- potential
pub record IsLeastFound (rows : List TeRow) (closed : List Bool) (banned : List NodeId) (from to : NodeId)
    (found : Found) : Type 0 where
  pub route : IsLeast (IsWalk rows (IsClosed rows closed) (Contains banned) from to) found.route found.cost
  pub potential : ArePotentials (IsWalk rows (IsClosed rows closed) (Contains banned) from) found.potential
  pub certificate : Certify rows (IsClosed rows closed) (Contains banned) from found.potential
  pub end : Contains found.potential (to, found.cost)
