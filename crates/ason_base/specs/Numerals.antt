-- Numbers that words write in decimal.
use Rattle.std.specs.{Prelude.{ℕ, ◌==◌, ◌&&◌, nat_le, Bool, false, not, List, [], ◌∷◌, Option, Some, None, Result, Ok, Err, if◌then◌else◌}, List.list_all, Char.is_ascii_digit, Str.Parse.digits_value}
use Rattle.ason_base.specs.{declared.numerals.NumeralFault.NumeralFault, declared.numerals.NumeralFault.TheVariants.{NoNumber, OutOfRange}}

abbrev pub are_digits : List ℕ → Bool
are_digits bs = list_all is_ascii_digit bs

-- decimal digits, the first of several not zero
abbrev pub is_numeral : List ℕ → Bool
is_numeral [] = false
is_numeral (b ∷ []) = is_ascii_digit b
is_numeral (b ∷ c ∷ bs) = is_ascii_digit b && (are_digits (c ∷ bs) && not (b == 48))

-- what these digits write, where it is at most this
abbrev pub number_up_to : ℕ → List ℕ → Option ℕ
number_up_to most digits = if nat_le (digits_value 10 digits) most then Some (digits_value 10 digits) else None

-- the number that the word writes, where it is one and is from the one to the other
abbrev pub number_within : ℕ → ℕ → List ℕ → Result ℕ NumeralFault
number_within least most word =
    if is_numeral word
    then (if nat_le least (digits_value 10 word) && nat_le (digits_value 10 word) most
    then Ok (digits_value 10 word)
    else Err OutOfRange)
    else Err NoNumber
