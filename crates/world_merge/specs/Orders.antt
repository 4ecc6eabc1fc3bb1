-- Logs and posts in one order: by stamp, then node, a post first.
use Rattle.std.specs.{Prelude.{◌≡◌, ◌<◌, ◌≤◌, ◌+◌, ◌==◌, ◌⊎◌, ℕ, Bool, true, false, List, [], ◌∷◌, filter, Option, Some, None}, List.AllByRecursion}
use Rattle.ason_base.specs.{declared.ids.NodeId.NodeId, declared.commands.Entry.Entry}
use Rattle.world_merge.specs.{Histories.{Histories, at}, Logs.{RisesAbove, log_of, posts_of}, Merges.IsMergeOf}

-- The order

-- a post stands before every node
abbrev pub order_place : Option NodeId → ℕ
order_place None = 0
order_place (Some n) = n.0 + 1

-- e comes before f, or at the same place
abbrev pub IsBefore : Entry → Entry → Type 0
IsBefore e f = (e.stamp < f.stamp) ⊎ ((e.stamp ≡ f.stamp) × (order_place e.node ≤ order_place f.node))

abbrev pub IsSorted : List Entry → Type 0
IsSorted [] = Unit {0}
IsSorted (e ∷ m) = AllByRecursion (IsBefore e) m × IsSorted m

-- Whose lines they are

abbrev pub is_at_node : ℕ → Option NodeId → Bool
is_at_node n None = false
is_at_node n (Some m) = m.0 == n

abbrev pub is_no_node : Option NodeId → Bool
is_no_node None = true
is_no_node (Some m) = false

-- a line of this node
abbrev pub is_of : ℕ → Entry → Bool
is_of n e = is_at_node n e.node

abbrev pub is_post : Entry → Bool
is_post e = is_no_node e.node

-- The list has each log and the posts, whole and each in its order. A line is of a node or a post, so it has no other.
pub record IsMerge (logs : ℕ → List Entry) (posts : List Entry) (m : List Entry) : Type 0 where
  pub sorted : IsSorted m
  pub each_log : (n : ℕ) → filter (is_of n) m ≡ logs n
  pub all_posts : filter is_post m ≡ posts

-- These are the logs and the posts of what happened. At each node stamps rise, so none of its lines has the stamp of a
-- post.
pub record AreLogs (hists : Histories) (logs : ℕ → List Entry) (posts : List Entry) : Type 0 where
  pub each_log : (n : ℕ) → log_of (at n) (hists n) ≡ logs n
  pub all_posts : (n : ℕ) → posts_of (at n) (hists n) ≡ posts
  pub rises : (n : ℕ) → RisesAbove 0 (hists n)

-- the sorted list of all lines is a merge of what happened
abbrev pub SortingMerges : Type 0
SortingMerges =
    (hists : Histories) (logs : ℕ → List Entry) (posts m : List Entry) → AreLogs hists logs posts →
    IsMerge logs posts m → IsMergeOf hists m
