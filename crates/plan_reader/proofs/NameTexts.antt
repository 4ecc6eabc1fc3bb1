-- Names are ASCII, and so UTF-8.
use Rattle.std.proofs.{Common.{◌≡◌, ℕ, zero, suc, ◌<◌, nat_le, true, List, [], ◌∷◌, length, arith}, lemmas.Bool.Decides.nat_tests, lemmas.Bool.and_parts, lemmas.Str.IsUtf8-from_ascii}
use Rattle.std.specs.{Char.is_ascii_alphabetic, List.slice_index, Str.IsUtf8}
use Rattle.plan_reader.specs.{declared.limits.TheConstants.MOST_MORE_CHARACTERS, Names.{are_name_bytes, is_name, is_name_byte, is_name_rest}}

letter_below : (b : ℕ) → is_ascii_alphabetic b ≡ true → b < 128
letter_below b h = grind (arith, nat_tests, h)

name_byte_below : (b : ℕ) → is_name_byte b ≡ true → b < 128
unfolding is_name_byte
name_byte_below b h = grind (arith, nat_tests, h)

ascii_name_bytes : (w : List ℕ) → are_name_bytes w ≡ true → (i : ℕ) → slice_index w i < 128
ascii_name_bytes [] h i = omega arith
ascii_name_bytes (b ∷ bs) h zero = name_byte_below b (and_parts (is_name_byte b) (are_name_bytes bs) h).0
ascii_name_bytes (b ∷ bs) h (suc i) = ascii_name_bytes bs (and_parts (is_name_byte b) (are_name_bytes bs) h).1 i

ascii_name : (w : List ℕ) → is_name w ≡ true → (i : ℕ) → slice_index w i < 128
ascii_name [] h i = omega arith
ascii_name (b ∷ bs) h zero = letter_below b (and_parts (is_ascii_alphabetic b) (is_name_rest bs) h).0
ascii_name (b ∷ bs) h (suc i) =
    let others : is_name_rest bs ≡ true = (and_parts (is_ascii_alphabetic b) (is_name_rest bs) h).1 in
    ascii_name_bytes bs (and_parts (nat_le (length bs) MOST_MORE_CHARACTERS) (are_name_bytes bs) others).1 i

pub utf8_name : (w : List ℕ) → is_name w ≡ true → IsUtf8 w
utf8_name w h = IsUtf8-from_ascii w (ascii_name w h)
