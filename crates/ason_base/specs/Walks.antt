-- Walks over rows from node to node, their costs, and the least of them.
-- A walk is a list of steps. Its bans are two properties: of links that it must not use, and of nodes that it must not
-- visit after its start.
use Rattle.std.specs.{Prelude.{◌≡◌, ◌≢◌, ℕ, ◌+◌, ◌<◌, ◌≤◌, ◌⊎◌, List, [], ◌∷◌, length, map, All}, List.{AllPairs, Contains}}
use Rattle.ason_base.specs.{declared.limits.TheConstants.{MOST_METRIC, MOST_NODES}, Risks.{AreRiskDisjoint, HasRisk, risks_of}, declared.ids.LinkId.LinkId, declared.ids.NodeId.NodeId, declared.network.TeRow.TeRow, declared.risks.Risk.Risk, declared.steps.Step.Step}

-- the row's link joins the two nodes, whichever of them is the low end
abbrev pub Joins : TeRow → NodeId → NodeId → Type 0
Joins row a b = ((row.low ≡ a) × (row.high ≡ b)) ⊎ ((row.high ≡ a) × (row.low ≡ b))

-- one step of a walk, from node a over a row of the step's link to node b
pub record WalkStep (rows : List TeRow) (BannedLink : LinkId → Type 0) (BannedNode : NodeId → Type 0) (a : NodeId)
    (s : Step) (row : TeRow) (b : NodeId) : Type 0 where
  pub known : Contains rows row
  pub sender : s.node ≡ a
  pub link : s.link ≡ row.link
  pub joins : Joins row a b
  pub link_allowed : ¬ BannedLink row.link
  pub node_allowed : ¬ BannedNode b

-- the steps lead from a to b, and their metrics add up to the cost
abbrev pub IsWalk : List TeRow → (LinkId → Type 0) → (NodeId → Type 0) → NodeId → NodeId → List Step → ℕ → Type 0
IsWalk rows BannedLink BannedNode a b [] cost = (a ≡ b) × (cost ≡ 0)
IsWalk rows BannedLink BannedNode a b (s ∷ steps) cost =
    (row : TeRow) × (next : NodeId) × (left : ℕ) × WalkStep rows BannedLink BannedNode a s row next ×
    IsWalk rows BannedLink BannedNode next b steps left × (cost ≡ row.metric + left)

-- no link, and no node, is banned
abbrev pub NoLink : LinkId → Type 0
NoLink l = ⊥

abbrev pub NoNode : NodeId → Type 0
NoNode n = ⊥

abbrev pub links_of : List Step → List LinkId
links_of steps = map (λ s. s.link) steps

-- the lists are the same, or the first stands before the second: at the first place where they differ it has ended or
-- has the lesser link
abbrev pub IsAtMost : List LinkId → List LinkId → Type 0
IsAtMost [] ys = Unit {0}
IsAtMost (x ∷ xs) [] = ⊥
IsAtMost (x ∷ xs) (y ∷ ys) = (x.0 < y.0) ⊎ ((x ≡ y) × IsAtMost xs ys)

-- of the routes that are allowed at some cost, this one has the least cost, and among those of that cost the least list
-- of links
pub record IsLeast (IsAllowed : List Step → ℕ → Type 0) (route : List Step) (cost : ℕ) : Type 0 where
  pub allowed : IsAllowed route cost
  pub least : (other : List Step) (c : ℕ) → IsAllowed other c → cost ≤ c
  pub first : (other : List Step) → IsAllowed other cost → IsAtMost (links_of route) (links_of other)

-- each node with the least cost of what leads there, rising by node, and no node to which nothing leads
pub record ArePotentials (Leads : NodeId → List Step → ℕ → Type 0) (potentials : List (NodeId × ℕ)) : Type 0 where
  pub rising : AllPairs (λ x y. x.0.0 < y.0.0) potentials
  pub attained : (n : NodeId) (p : ℕ) → Contains potentials (n, p) → (route : List Step) × Leads n route p
  pub least : (n : NodeId) (route : List Step) (cost : ℕ) → Leads n route cost → (p : ℕ) ×
      Contains potentials (n, p) × (p ≤ cost)

-- what shows that no walk costs less: 0 at the start, and over each row that is allowed a rise of at most the metric
pub record Certify (rows : List TeRow) (BannedLink : LinkId → Type 0) (BannedNode : NodeId → Type 0) (from : NodeId)
    (potentials : List (NodeId × ℕ)) : Type 0 where
  pub start : Contains potentials (from, 0)
  pub rises :
      (a b : NodeId) (s : Step) (row : TeRow) (p : ℕ) → WalkStep rows BannedLink BannedNode a s row b →
      Contains potentials (a, p)
      → (q : ℕ) × Contains potentials (b, q) × (q ≤ p + row.metric)

-- no more nodes than a network has are ends of the rows
abbrev pub HaveFewEnds : List TeRow → Type 0
HaveFewEnds rows = (nodes : List NodeId) × (length nodes ≤ MOST_NODES) ×
    All (λ row. Contains nodes row.low × Contains nodes row.high) rows

-- each metric is 1 to 65,535
abbrev pub HaveMetrics : List TeRow → Type 0
HaveMetrics rows = All (λ row. (1 ≤ row.metric) × (row.metric ≤ MOST_METRIC)) rows

-- no link is in two rows
abbrev pub HaveDistinctLinks : List TeRow → Type 0
HaveDistinctLinks rows = AllPairs (λ x y. x.link ≢ y.link) rows

-- a node that the route visits besides its two ends
abbrev pub IsInner : NodeId → NodeId → List Step → NodeId → Type 0
IsInner from to route n = (s : Step) × Contains route s × (s.node ≡ n) × (n ≢ from) × (n ≢ to)

-- a walk that is risk-disjoint from the primary route and shares no inner node with it
pub record IsBackup (rows : List TeRow) (primary : List Step) (from to : NodeId) (route : List Step)
    (cost : ℕ) : Type 0 where
  pub walk : IsWalk rows NoLink NoNode from to route cost
  pub risks : AreRiskDisjoint rows route primary
  pub nodes : (n : NodeId) → IsInner from to route n → ¬ IsInner from to primary n

-- the link has a risk of the route
abbrev pub SharesRisk : List TeRow → List Step → LinkId → Type 0
SharesRisk rows route l = (row : TeRow) × (r : Risk) × Contains rows row × (row.link ≡ l) ×
    Contains (risks_of row) r × HasRisk rows route r
