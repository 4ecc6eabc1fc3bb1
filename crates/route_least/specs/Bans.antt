-- Rows that are marked, by their place in the list.
use Rattle.std.specs.{Prelude.{◌≡◌, ◌<◌, ◌↔◌, ℕ, List, Bool, true, Some, length, slice_get}, List.Contains}
use Rattle.ason_base.specs.{declared.ids.LinkId.LinkId, declared.network.TeRow.TeRow}
use Rattle.route_least.specs.Costs.{is_place_marked}

-- of the first rows, so many, just those are marked of which it holds
pub record AreRowsWith (Holds : TeRow → Type 0) (rows : List TeRow) (count : ℕ) (marks : List Bool) : Type 0 where
  pub len : length marks ≡ count
  pub are : (k : ℕ) (row : TeRow) → k < count → slice_get rows k ≡ Some row →
      (is_place_marked marks k ≡ true) ↔ Holds row

-- just the rows of these links are marked
abbrev pub AreLinksMarked : List TeRow → List LinkId → List Bool → Type 0
AreLinksMarked rows links closed = AreRowsWith (λ row. Contains links row.link) rows (length rows) closed
