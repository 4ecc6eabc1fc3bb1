-- What a pair of routes, and each refusal, says.
use Rattle.std.specs.{Prelude.{◌≡◌, ◌↔◌, ℕ, List, None, Some, length}, List.Contains}
use Rattle.ason_base.specs.{Risks.unknown_link, Walks.{ArePotentials, Certify, IsBackup, IsInner, IsLeast, IsWalk, NoLink, NoNode, SharesRisk}, declared.ids.LinkId.LinkId, declared.ids.NodeId.NodeId, declared.network.TeRow.TeRow, declared.steps.Step.Step}
use Rattle.route_least.specs.{Answers.JoinsNone, declared.answers.Found.Found, declared.answers.RouteFault.RouteFault, declared.answers.RouteFault.TheVariants.{NoRoute, OutOfMemory}, Network.IsClosed}
use Rattle.route_pair.specs.{declared.answers.BackupFault.BackupFault, declared.answers.BackupFault.TheVariants.{Unknown, NoBackup, OutOfMemory as BackupOutOfMemory}, declared.bans.Bans.Bans, declared.answers.PairFault.PairFault, declared.answers.PairFault.TheVariants.{NoPrimary, NoBackup as NoPair, OutOfMemory as PairOutOfMemory}}

-- the least route of all, its cost and the potentials, which certify it
pub record IsPrimary (rows : List TeRow) (from to : NodeId) (found : Found) : Type 0 where
  pub route : IsLeast (IsWalk rows NoLink NoNode from to) found.route found.cost
  pub potential : ArePotentials (IsWalk rows NoLink NoNode from) found.potential
  pub certificate : Certify rows NoLink NoNode from found.potential
  pub end : Contains found.potential (to, found.cost)

-- the least route that is risk-disjoint from the primary one and shares no inner node with it; its potentials are of
-- walks that use no
-- link with a risk of the primary route and visit no inner node of it
pub record IsBackupFound (rows : List TeRow) (primary : List Step) (from to : NodeId) (found : Found) : Type 0 where
  pub route : IsLeast (IsBackup rows primary from to) found.route found.cost
  pub potential : ArePotentials (IsWalk rows (SharesRisk rows primary) (IsInner from to primary) from) found.potential
  pub certificate : Certify rows (SharesRisk rows primary) (IsInner from to primary) from found.potential
  pub end : Contains found.potential (to, found.cost)

abbrev pub HasNoBackup : List TeRow → List Step → NodeId → NodeId → Type 0
HasNoBackup rows primary from to = (route : List Step) (cost : ℕ) → ¬ IsBackup rows primary from to route cost

abbrev pub IsFault : List TeRow → NodeId → NodeId → RouteFault → Type 0
IsFault rows from to (NoRoute potential) = JoinsNone rows NoLink NoNode from to potential
IsFault rows from to OutOfMemory = Unit {0}

abbrev pub IsPairFault : List TeRow → NodeId → NodeId → PairFault → Type 0
IsPairFault rows from to (NoPrimary potential) = JoinsNone rows NoLink NoNode from to potential
IsPairFault rows from to (NoPair primary) = IsPrimary rows from to primary × HasNoBackup rows primary.route from to
IsPairFault rows from to PairOutOfMemory = Unit {0}

abbrev pub IsBackupFault : List TeRow → List Step → NodeId → NodeId → BackupFault → Type 0
IsBackupFault rows primary from to (Unknown link) = unknown_link rows primary ≡ Some link
IsBackupFault rows primary from to NoBackup = (unknown_link rows primary ≡ None) × HasNoBackup rows primary from to
IsBackupFault rows primary from to BackupOutOfMemory = Unit {0}

-- none is risk-disjoint from the primary route and shares no inner node with it
abbrev pub IsUnsharedFault : List TeRow → List Step → NodeId → NodeId → RouteFault → Type 0
IsUnsharedFault rows primary from to (NoRoute potential) = HasNoBackup rows primary from to
IsUnsharedFault rows primary from to OutOfMemory = Unit {0}

-- just the rows with a risk of the primary route are closed, and just its inner nodes are banned
pub record AreBans (rows : List TeRow) (primary : List Step) (from to : NodeId) (bans : Bans) : Type 0 where
  pub len : length bans.closed.items ≡ length rows
  pub links : (l : LinkId) → IsClosed rows bans.closed.items l ↔ SharesRisk rows primary l
  pub nodes : (n : NodeId) → Contains bans.nodes n ↔ IsInner from to primary n
