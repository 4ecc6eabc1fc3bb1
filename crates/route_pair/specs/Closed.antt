-- Rows that are closed to a backup, as they are found.
use Rattle.std.specs.{Prelude.{◌≡◌, ◌%◌, ◌<◌, ◌≤◌, ◌↔◌, ◌⊎◌, ℕ, List, Bool, true, Some, length, slice_get}, List.Contains}
use Rattle.route_pair.specs.declared.bans.TheConstants.{FLAGS}
use Rattle.ason_base.specs.{declared.network.TeRow.TeRow, declared.steps.Step.Step}
use Rattle.route_least.specs.{Bans.AreRowsWith, Costs.is_place_marked}

-- the route has the row's link
abbrev pub IsRowOnRoute : List Step → TeRow → Type 0
IsRowOnRoute route row = (s : Step) × Contains route s × (row.link ≡ s.link)

-- of the first rows, so many, just those are marked that the route has
abbrev pub AreUsed : List TeRow → List Step → ℕ → List Bool → Type 0
AreUsed rows route count used = AreRowsWith (IsRowOnRoute route) rows count used

-- an SRLG of one of the first rows, so many, that is marked
abbrev pub IsSrlgOf : List TeRow → List Bool → ℕ → ℕ → Type 0
IsSrlgOf rows used count x = (k : ℕ) × (row : TeRow) × (k < count) × (slice_get rows k ≡ Some row) ×
    (is_place_marked used k ≡ true) × Contains row.srlgs x

abbrev pub AreSrlgsOf : List TeRow → List Bool → ℕ → List ℕ → Type 0
AreSrlgsOf rows used count srlgs = (x : ℕ) → Contains srlgs x ↔ IsSrlgOf rows used count x

-- the row has one of the SRLGs
abbrev pub HasOneSrlg : TeRow → List ℕ → Type 0
HasOneSrlg row srlgs = (x : ℕ) × Contains row.srlgs x × Contains srlgs x

-- a flag for each remainder of 256: that of each number is up
pub record AreFlagged (numbers : List ℕ) (flags : List Bool) : Type 0 where
  pub len : length flags ≡ FLAGS
  pub up : (x : ℕ) → Contains numbers x → is_place_marked flags (x % FLAGS) ≡ true

-- the row's link has one of the numbers
abbrev pub RowHasLink : List ℕ → TeRow → Type 0
RowHasLink links row = Contains links row.link.0

-- of the first rows, so many, those of which it holds are marked too
pub record AreClosedToo (rows : List TeRow) (Holds : TeRow → Type 0) (count : ℕ) (old new : List Bool) : Type 0 where
  pub len : length new ≡ length old
  pub are : (k : ℕ) (row : TeRow) → k < count → slice_get rows k ≡ Some row →
      (is_place_marked new k ≡ true) ↔ ((is_place_marked old k ≡ true) ⊎ Holds row)
  pub rest : (k : ℕ) → count ≤ k → is_place_marked new k ≡ is_place_marked old k
