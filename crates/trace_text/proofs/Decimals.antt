-- Decimals are numerals, with no space and no newline.
use Rattle.std.proofs.{Common.{◌≡◌, ◌∙◌, ◌<◌, ◌≤◌, ◌^◌, ◌+◌, ◌/◌, ◌%◌, ◌==◌, ◌&&◌, ℕ, nat_le, Bool, true, false, not, List, [], ◌∷◌, ◌++◌, Some, refl, ap, arith}, lemmas.Bool.and_parts, lemmas.Fmt.{decimal_by_steps, decimal_is_IsNumeral}, lemmas.List.Folds.list_all-append}
use Rattle.std.specs.{Char.is_ascii_digit, Fmt.decimal, Prelude.{Ok, Result}, Str.Parse.digits_value}
use Rattle.ason_base.specs.{Numerals.{are_digits, is_numeral, number_within}, declared.numerals.NumeralFault.NumeralFault}
use Rattle.plan_reader.specs.PlanTexts.{if_found}
use Rattle.trace_text.specs.{EntryForms.stamp_of, RoundTrip.lacks_byte}

-- a byte below the digits isn't in a decimal
pub lacks_low : (byte n : ℕ) → byte < 48 → n < 2 ^ 64 → lacks_byte byte (decimal n) ≡ true
lacks_low byte n low h =
    decimal_by_steps (λ m ds. lacks_byte byte ds ≡ true) (λ m lt. one m lt)
    (λ m ds ten so_far.
    list_all-append (λ b. not (b == byte)) ds ((48 + m % 10) ∷ [])
    ∙ rw (so_far, one (m % 10) (omega arith)) refl) n h
  where
    one : (m : ℕ) → m < 10 → lacks_byte byte ((48 + m) ∷ []) ≡ true
    one m lt = let t : ((48 + m) == byte) ≡ false = grind (arith, low) in rw t refl

digit_is : (n : ℕ) → n < 10 → is_ascii_digit (48 + n) ≡ true
digit_is n h = grind arith

abbrev begins_with_zero : List ℕ → Bool
begins_with_zero [] = false
begins_with_zero (b ∷ bs) = b == 48

-- a decimal is a numeral, and begins with a zero only where it is zero
abbrev IsDecimal : ℕ → List ℕ → Type 0
IsDecimal n ds = (is_numeral ds ≡ true) × (1 ≤ n → begins_with_zero ds ≡ false)

longer : (d : ℕ) (ds : List ℕ) → d < 10 → is_numeral ds ≡ true → begins_with_zero ds ≡ false →
    (is_numeral (ds ++ (48 + d) ∷ []) ≡ true) × (begins_with_zero (ds ++ (48 + d) ∷ []) ≡ false)
longer d [] lt is other = absurd (cc (is))
longer d (b ∷ []) lt is other =
    let not_zero : (b == 48) ≡ false = other in
    (rw (is, digit_is d lt, not_zero) refl, other)
longer d (b ∷ c ∷ bs) lt is other =
    let (first, others) = and_parts (is_ascii_digit b) (are_digits (c ∷ bs) && not (b == 48)) is in
    let (more, z) = and_parts (are_digits (c ∷ bs)) (not (b == 48)) others in
    let digits : are_digits (c ∷ bs ++ (48 + d) ∷ []) ≡ true =
    list_all-append is_ascii_digit (c ∷ bs) ((48 + d) ∷ []) ∙ rw (more, digit_is d lt) refl in
    let not_zero : (b == 48) ≡ false = other in
    (rw (first, digits, not_zero) refl, other)

decimal_is : (n : ℕ) → n < 2 ^ 64 → IsDecimal n (decimal n)
decimal_is n h =
    decimal_by_steps IsDecimal (λ m lt. (digit_is m lt, λ some. not_zero m some))
    (λ m ds ten so_far.
    let some : 1 ≤ m / 10 = omega arith in
    let both = longer (m % 10) ds (omega arith) so_far.0 (so_far.1 some) in
    (both.0, λ h. both.1)) n h
  where
    not_zero : (m : ℕ) → 1 ≤ m → ((48 + m) == 48) ≡ false
    not_zero m some = grind arith

-- what is written of a number is that number
pub number_read : (n : ℕ) → n < 2 ^ 64 → number_within 0 18446744073709551615 (decimal n) ≡ Ok n
number_read n h =
    let value : digits_value 10 (decimal n) ≡ n = (decimal_is_IsNumeral n h).1 in
    let small : nat_le n 18446744073709551615 ≡ true = grind (arith, h) in
    let low : nat_le 0 n ≡ true = grind arith in
    rw ((decimal_is n h).0, value, low, small) refl

pub stamp_read : (n : ℕ) → n < 2 ^ 64 → stamp_of (decimal n) ≡ Some n
stamp_read n h = ap (λ (r : Result ℕ NumeralFault). if_found r) (number_read n h)
