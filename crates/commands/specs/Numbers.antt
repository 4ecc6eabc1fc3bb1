-- Numbers that words write.
use Rattle.std.specs.Prelude.{ℕ, ◌≤◌, List, Option, Some, None, Result, Ok, Err}
use Rattle.ason_base.specs.{Numerals.number_within, declared.numerals.NumeralFault.NumeralFault}

abbrev pub Between : ℕ → ℕ → ℕ → Type 0
Between least most n = (least ≤ n) × (n ≤ most)

abbrev pub number_or_none : Result ℕ NumeralFault → Option ℕ
number_or_none (Ok n) = Some n
number_or_none (Err e) = None

-- the number that the word writes, where it is one and is from the one to the other
abbrev pub number_in : ℕ → ℕ → List ℕ → Option ℕ
number_in least most word = number_or_none (number_within least most word)
