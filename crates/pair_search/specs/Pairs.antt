-- Pairs of routes that can't fail together, and which of two is the better one.
use Rattle.std.specs.Prelude.{◌≡◌, ◌≤◌, ◌+◌, ℕ, true, List, [], ◌∷◌, ◌++◌, Option, Some, None}
use Rattle.ason_base.specs.{Network.is_distinct, Routes.nodes_of, Walks.{IsAtMost, IsBackup, IsWalk, NoLink, NoNode, links_of}, declared.ids.NodeId.NodeId, declared.network.TeRow.TeRow, declared.steps.Step.Step}

-- no node comes twice on the route, its end included
abbrev pub VisitsOnce : NodeId → List Step → Type 0
VisitsOnce to route = is_distinct (nodes_of route ++ to.0 ∷ []) ≡ true

-- A primary route and a backup without a common risk and without a common node between the ends, both without a
-- repeated node. The primary costs no more than the backup.
pub record IsPair (rows : List TeRow) (from to : NodeId) (primary backup : List Step) (cost more : ℕ) : Type 0 where
  pub first : IsWalk rows NoLink NoNode from to primary cost
  pub first_once : VisitsOnce to primary
  pub second : IsBackup rows primary from to backup more
  pub second_once : VisitsOnce to backup
  pub less : cost ≤ more

-- a pair of this cost shows that there is none better, or that there is one at all
abbrev pub IsNotBetter : Option ℕ → ℕ → ℕ → Type 0
IsNotBetter None cost more = ⊥
IsNotBetter (Some total) cost more = total ≤ cost + more

-- no pair has a lesser total; without a total, there is no pair
abbrev pub NoneIsBetter : List TeRow → NodeId → NodeId → Option ℕ → Type 0
NoneIsBetter rows from to total =
    (primary backup : List Step) (cost more : ℕ) → IsPair rows from to primary backup cost more →
    IsNotBetter total cost more

-- two routes and the sum of their costs
pub record Weighed : Type 0 where
  pub primary : List Step
  pub backup : List Step
  pub total : ℕ

-- the first pair is better, or as good: a lesser total, then a lesser primary list of links, then a lesser backup list
pub record IsAsGood (first second : Weighed) : Type 0 where
  pub total : first.total ≤ second.total
  pub primary : first.total ≡ second.total → IsAtMost (links_of first.primary) (links_of second.primary)
  pub backup : first.total ≡ second.total → links_of first.primary ≡ links_of second.primary →
      IsAtMost (links_of first.backup) (links_of second.backup)

-- a pair of this total, as good as each other one
pub record IsBestPair (rows : List TeRow) (from to : NodeId) (best : Weighed) : Type 0 where
  pub cost : ℕ
  pub more : ℕ
  pub pair : IsPair rows from to best.primary best.backup cost more
  pub sum : best.total ≡ cost + more
  pub good : (primary backup : List Step) (c m : ℕ) → IsPair rows from to primary backup c m →
      IsAsGood best (record { primary = primary; backup = backup; total = c + m })

abbrev pub HasNoPair : List TeRow → NodeId → NodeId → Type 0
HasNoPair rows from to =
    (primary backup : List Step) (cost more : ℕ) → ¬ IsPair rows from to primary backup cost more
