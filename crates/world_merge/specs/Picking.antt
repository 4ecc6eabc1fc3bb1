-- Sorted lists in one, by taking the least of their heads again and again.
use Rattle.std.specs.{Prelude.{◌≡◌, ◌+◌, ◌==◌, ◌&&◌, ◌||◌, ◌⊎◌, ℕ, zero, suc, nat_lt, nat_le, Bool, List, [], ◌∷◌, filter, length, Option, Some, None, if◌then◌else◌}, List.{AllByRecursion, flat_map}}
use Rattle.ason_base.specs.declared.commands.Entry.{Entry}
use Rattle.world_merge.specs.Orders.{IsSorted, order_place}

-- The function

-- whether e comes before f, or at the same place
abbrev pub is_before : Entry → Entry → Bool
is_before e f = nat_lt e.stamp f.stamp || (e.stamp == f.stamp && nat_le (order_place e.node) (order_place f.node))

-- a line, and what is left of the lists without it
pub record Picked : Type 0 where
  pub entry : Entry
  pub left : List (List Entry)

-- a list more, of which nothing was picked
abbrev pub picked_behind : List Entry → Option Picked → Option Picked
picked_behind l None = None
picked_behind l (Some p) = Some (record { entry = p.entry; left = l ∷ p.left })

-- the head e of the first list, or what was picked of the others, whichever comes first; e where both are at one place
abbrev pub chosen : Entry → List Entry → List (List Entry) → Option Picked → Option Picked
chosen e es ls None = Some (record { entry = e; left = es ∷ ls })
chosen e es ls (Some p) =
    if is_before e p.entry
    then Some (record { entry = e; left = es ∷ ls })
    else Some (record { entry = p.entry; left = (e ∷ es) ∷ p.left })

-- the least of the heads; of those at one place, that of the earlier list
abbrev pub picked : List (List Entry) → Option Picked
picked [] = None
picked ([] ∷ ls) = picked_behind [] (picked ls)
picked ((e ∷ es) ∷ ls) = chosen e es ls (picked ls)

abbrev pub then_picked : (List (List Entry) → List Entry) → Option Picked → List Entry
then_picked go None = []
then_picked go (Some p) = p.entry ∷ go p.left

-- so many lines at most
abbrev pub merged_by : ℕ → List (List Entry) → List Entry
merged_by zero ls = []
merged_by (suc k) ls = then_picked (merged_by k) (picked ls)

abbrev pub lines_total : List (List Entry) → ℕ
lines_total [] = 0
lines_total (l ∷ ls) = length l + lines_total ls

-- all lines
abbrev pub merged_of : List (List Entry) → List Entry
merged_of ls = merged_by (lines_total ls) ls

-- The law

-- no line of these lists passes the test
abbrev pub HasNoLine : (Entry → Bool) → List (List Entry) → Type 0
HasNoLine f ls = AllByRecursion (λ (l : List Entry). filter f l ≡ []) ls

-- what passes the test stands in one of the lists alone
abbrev pub IsInOne : (Entry → Bool) → List (List Entry) → Type 0
IsInOne f [] = Unit {0}
IsInOne f (l ∷ ls) = ((filter f l ≡ []) × IsInOne f ls) ⊎ HasNoLine f ls

-- the list is sorted; and of a test that the lines of one list alone pass, as those of one node, it has just these, in
-- their order
pub record IsPicked (ls : List (List Entry)) : Type 0 where
  pub sorted : IsSorted (merged_of ls)
  pub each : (f : Entry → Bool) → IsInOne f ls → filter f (merged_of ls) ≡ flat_map (filter f) ls

abbrev pub PickingSorts : Type 0
PickingSorts = (ls : List (List Entry)) → AllByRecursion IsSorted ls → IsPicked ls
