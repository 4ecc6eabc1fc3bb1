-- What holds of the least walk as a function of the rows, and of the least backup beside a route.
use Rattle.std.specs.{Prelude.{◌≡◌, ◌≢◌, ◌↔◌, ℕ, true, false, List, ◌∷◌, [], ◌++◌, All, IsTrue, Some, None, is_some}, List.Contains}
use Rattle.ason_base.specs.{declared.ids.NodeId.NodeId, declared.network.LinkSpec.LinkSpec, declared.network.TeRow.TeRow, declared.steps.Step.Step, Network.{IsTopology, Network, find_link, is_distinct, row_of}, Risks.unknown_link, Routes.{is_beside, makes_route, nodes_of}, Walks.{HaveDistinctLinks, HaveFewEnds, HaveMetrics, IsBackup, IsLeast, IsWalk, NoLink, NoNode}}
use Rattle.mesh_rules.specs.{Commands.is_searchable, KnownRows.known_rows, LocalNodes.{LocalNode, local_node}, State.{NodeState, new_node}, LeastRoutes.{Trip, least_backup, least_trip}, Setups.is_followable}

-- rows of which routes can be asked: at most 64 ends, metrics of 1 to 65,535, no link in two rows
pub record AreSearchable (rows : List TeRow) : Type 0 where
  pub ends : HaveFewEnds rows
  pub metrics : HaveMetrics rows
  pub links : HaveDistinctLinks rows

-- The least walk

-- the function gives a walk exactly where of all walks, of any number of links, this one is the least
abbrev pub LeastTripIsLeast : Type 0
LeastTripIsLeast =
    (rows : List TeRow) (a b : NodeId) (r : Trip) → AreSearchable rows →
    (least_trip rows a b ≡ Some r) ↔ IsLeast (IsWalk rows NoLink NoNode a b) r.steps r.cost

-- and none exactly where there is no walk
abbrev pub NoTripIsNoWalk : Type 0
NoTripIsNoWalk =
    (rows : List TeRow) (a b : NodeId) → AreSearchable rows →
    (least_trip rows a b ≡ None) ↔ ((route : List Step) (cost : ℕ) → ¬ IsWalk rows NoLink NoNode a b route cost)

-- the least walk visits no node twice
abbrev pub LeastTripVisitsOnce : Type 0
LeastTripVisitsOnce =
    (rows : List TeRow) (a b : NodeId) (r : Trip) → HaveMetrics rows → least_trip rows a b ≡ Some r →
    is_distinct (nodes_of r.steps ++ b.0 ∷ []) ≡ true

-- The least backup

abbrev pub LeastBackupIsLeast : Type 0
LeastBackupIsLeast =
    (rows : List TeRow) (primary : List Step) (a b : NodeId) (r : Trip) → AreSearchable rows →
    (least_backup rows primary a b ≡ Some r) ↔ IsLeast (IsBackup rows primary a b) r.steps r.cost

abbrev pub NoBackupIsNone : Type 0
NoBackupIsNone =
    (rows : List TeRow) (primary : List Step) (a b : NodeId) → AreSearchable rows →
    (least_backup rows primary a b ≡ None) ↔ ((route : List Step) (cost : ℕ) → ¬ IsBackup rows primary a b route cost)

abbrev pub LeastBackupVisitsOnce : Type 0
LeastBackupVisitsOnce =
    (rows : List TeRow) (primary : List Step) (a b : NodeId) (r : Trip) → HaveMetrics rows →
    least_backup rows primary a b ≡ Some r → is_distinct (nodes_of r.steps ++ b.0 ∷ []) ≡ true

-- Routes of a network

-- the row is that of a link of the network
pub record IsRowOf (t : Network) (row : TeRow) : Type 0 where
  pub link : LinkSpec
  pub found : find_link t row.link ≡ Some link
  pub is : row ≡ row_of link

abbrev pub AreRowsOf : Network → List TeRow → Type 0
AreRowsOf t rows = (row : TeRow) → Contains rows row → IsRowOf t row

-- a node of a network finds a route like one that is given, where what it learnt are rows of the network
abbrev pub FoundRoutesLead : Type 0
FoundRoutesLead =
    (t : Network) (n b : NodeId) (s : NodeState) (r : Trip) → IsTrue (is_searchable t) → AreRowsOf t s.learnt →
    least_trip (known_rows (local_node t n) s) n b ≡ Some r → IsTrue (makes_route t n b r.steps)

-- so it is with a backup that the node finds beside a route
abbrev pub FoundBackupsLead : Type 0
FoundBackupsLead =
    (t : Network) (n b : NodeId) (s : NodeState) (primary : List Step) (r : Trip) → IsTrue (is_searchable t) →
    AreRowsOf t s.learnt → least_backup (known_rows (local_node t n) s) primary n b ≡ Some r →
    IsTrue (makes_route t n b r.steps)

-- Where each link of the route is known, the backup that is found is risk-disjoint from it in the whole network, and
-- shares no inner node with it.
abbrev pub FoundBackupsStandBeside : Type 0
FoundBackupsStandBeside =
    (t : Network) (n b : NodeId) (s : NodeState) (primary : List Step) (r : Trip) → IsTrue (is_searchable t) →
    AreRowsOf t s.learnt → is_some (unknown_link (known_rows (local_node t n) s) primary) ≡ false →
    least_backup (known_rows (local_node t n) s) primary n b ≡ Some r → IsTrue (is_beside t n b (Some primary) r.steps)

-- What a node knows

-- no end of the row is the node
abbrev pub IsElsewhere : NodeId → TeRow → Type 0
IsElsewhere n row = (row.low ≢ n) × (row.high ≢ n)

-- routes can be asked of the rows that the node knows, and it learnt none of a link of its own
pub record RowsFit (p : LocalNode) (s : NodeState) : Type 0 where
  pub searchable : AreSearchable (known_rows p s)
  pub others : All (IsElsewhere p.id) s.learnt

-- so it is with a node of a topology that learnt nothing
abbrev pub NewRowsFit : Type 0
NewRowsFit = (t : Network) (n : NodeId) → IsTopology t → RowsFit (local_node t n) new_node

-- a route that the node finds to another node can be followed from here: it is never neither refused nor asked for
abbrev pub FoundRoutesAreFollowed : Type 0
FoundRoutesAreFollowed =
    (p : LocalNode) (s : NodeState) (b : NodeId) (r : Trip) → RowsFit p s → p.id ≢ b →
    least_trip (known_rows p s) p.id b ≡ Some r → IsTrue (is_followable p (Some r.steps))
