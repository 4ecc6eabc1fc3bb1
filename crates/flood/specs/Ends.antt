-- What the different ends of rows are.
use Rattle.std.specs.{Prelude.{◌≡◌, ℕ, false, ◌==◌, List, [], ◌∷◌}, List.list_any}
use Rattle.ason_base.specs.declared.network.TeRow.{TeRow}
use Rattle.flood.specs.State.{ends_in_rows, is_end}

-- a node is among them just where it is an end of a row
abbrev pub EndsAreListed : Type 0
EndsAreListed = (rows : List TeRow) (n : ℕ) →
    list_any (λ m. m == n) (ends_in_rows rows) ≡ list_any (is_end (record { 0 = n })) rows

-- no number stands twice
abbrev pub IsApart : List ℕ → Type 0
IsApart [] = Unit {0}
IsApart (n ∷ ns) = (list_any (λ m. m == n) ns ≡ false) × IsApart ns

abbrev pub EndsStandOnce : Type 0
EndsStandOnce = (rows : List TeRow) → IsApart (ends_in_rows rows)
