-- The posts and the logs of the nodes as lists of lines.
use Rattle.std.specs.{Prelude.{◌≡◌, ◌==◌, ℕ, true, false, List, [], ◌∷◌}, List.{AllByRecursion, list_any}}
use Rattle.ason_base.specs.{Network.is_distinct, declared.commands.Entry.Entry}
use Rattle.world_merge.specs.{Orders.{IsMerge, IsSorted, is_of, is_post}, Picking.merged_of}

-- the log of a node, in which each line is of that node
pub record IsLogOf (logs : ℕ → List Entry) (n : ℕ) (l : List Entry) : Type 0 where
  pub log : l ≡ logs n
  pub own : AllByRecursion (λ (e : Entry). is_of n e ≡ true) l

-- the logs of these nodes, in their order
abbrev pub AreLogsOf : (ℕ → List Entry) → List ℕ → List (List Entry) → Type 0
AreLogsOf logs [] [] = Unit {0}
AreLogsOf logs (n ∷ ns) (l ∷ ls) = IsLogOf logs n l × AreLogsOf logs ns ls
AreLogsOf logs [] (l ∷ ls) = ⊥
AreLogsOf logs (n ∷ ns) [] = ⊥

-- These lists are the logs of all nodes that have one, a list each, and with the posts before them each is sorted.
pub record HasLogs (logs : ℕ → List Entry) (posts : List Entry) (ns : List ℕ) (ls : List (List Entry)) : Type 0 where
  pub distinct : is_distinct ns ≡ true
  pub each_log : AreLogsOf logs ns ls
  pub others : (n : ℕ) → list_any (λ m. m == n) ns ≡ false → logs n ≡ []
  pub posted : AllByRecursion (λ (e : Entry). is_post e ≡ true) posts
  pub sorted : AllByRecursion IsSorted (posts ∷ ls)

-- what is merged of the posts and the logs is their merge
abbrev pub EveryMergingMerges : Type 0
EveryMergingMerges =
    (logs : ℕ → List Entry) (posts : List Entry) (ns : List ℕ) (ls : List (List Entry)) →
    HasLogs logs posts ns ls → IsMerge logs posts (merged_of (posts ∷ ls))
