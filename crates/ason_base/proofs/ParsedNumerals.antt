-- What numerals write: they are UTF-8, and std's parser reads them by their value.
use Rattle.std.proofs.{Common.{◌≡◌, ℕ, zero, suc, ◌<◌, ◌^◌, Bool, nat_le, true, false, ◌&&◌, ◌==◌, not, List, [], ◌∷◌, length, Some, None, Result, Ok, Err, if◌then◌else◌, refl, rules, arith}, lemmas.Bool.and_parts, lemmas.Bool.Decides.nat_tests, lemmas.Str.IsUtf8-from_ascii, lemmas.Str.Parse.{IsNumeralModel, numerals_by_value, parse_digits}}
use Rattle.std.specs.{Char.is_ascii_digit, List.slice_index, Result.OkIff, Str.IsUtf8, Str.Parse.{ParsesUnsigned, digits_value}}
use Rattle.ason_base.specs.Numerals.{are_digits, is_numeral, number_up_to}

own : IsNumeralModel (λ ds. are_digits ds ≡ true) (digits_value 10)
own = numerals_by_value _ (search rules)

digits_of : (w : List ℕ) → is_numeral w ≡ true → are_digits w ≡ true
digits_of [] h = refl
digits_of (b ∷ []) h = rw h refl
digits_of (b ∷ c ∷ bs) h =
    let (first, others) = and_parts (is_ascii_digit b) (are_digits (c ∷ bs) && not (b == 48)) h in
    let (more, _) = and_parts (are_digits (c ∷ bs)) (not (b == 48)) others in
    rw (first, more) refl

length_of : (w : List ℕ) → is_numeral w ≡ true → 0 < length w
length_of [] h = absurd (cc (h))
length_of (b ∷ bs) h = omega arith

digit_below : (b : ℕ) → is_ascii_digit b ≡ true → b < 128
digit_below b h = grind (arith, nat_tests, h)

ascii_digits : (w : List ℕ) → are_digits w ≡ true → (i : ℕ) → slice_index w i < 128
ascii_digits [] h i = omega arith
ascii_digits (b ∷ bs) h zero = digit_below b (and_parts (is_ascii_digit b) (are_digits bs) h).0
ascii_digits (b ∷ bs) h (suc i) = ascii_digits bs (and_parts (is_ascii_digit b) (are_digits bs) h).1 i

-- A numeral is a text.
pub utf8_numeral : (w : List ℕ) → is_numeral w ≡ true → IsUtf8 w
utf8_numeral w h = IsUtf8-from_ascii w (ascii_digits w (digits_of w h))

ok_read :
    {E : Type 0} (v n len : ℕ) (r : Result ℕ E) → OkIff r ((0 < len) × (v < 2 ^ 64)) v → r ≡ Ok n
    → Some n ≡ (if nat_le v 18446744073709551615 then Some v else None)
ok_read v n len (Err e) h same = absurd (cc (same))
ok_read v n len (Ok m) h same =
    let within : nat_le v 18446744073709551615 ≡ true = grind (arith, h.0.1) in
    let value : n ≡ v = cc (same, h.1) in
    rw (within, value) refl

err_read :
    {E : Type 0} (v len : ℕ) (r : Result ℕ E) (e : E) → 0 < len → OkIff r ((0 < len) × (v < 2 ^ 64)) v → r ≡ Err e
    → None ≡ (if nat_le v 18446744073709551615 then Some v else None)
err_read v len (Ok m) e some h same = absurd (cc (same))
err_read v len (Err d) e some h same = by_size (nat_le v 18446744073709551615) refl
  where
    by_size : (b : Bool) → nat_le v 18446744073709551615 ≡ b → None ≡ (if b then Some v else None)
    by_size true e = absurd (h (some, grind (arith, e)))
    by_size false e = refl

-- What the parser reads of a numeral is its number.
pub parsed :
    {E : Type 0} (w : List ℕ) (n : ℕ) (r : Result ℕ E) → is_numeral w ≡ true → ParsesUnsigned 64 10 w r → r ≡ Ok n
    → Some n ≡ number_up_to 18446744073709551615 w
parsed w n r h p same =
    ok_read (digits_value 10 w) n (length w) r (parse_digits own 64 w r p (digits_of w h)) same

-- A numeral that the parser refuses has no number below 2^64.
pub not_parsed :
    {E : Type 0} (w : List ℕ) (r : Result ℕ E) (e : E) → is_numeral w ≡ true → ParsesUnsigned 64 10 w r → r ≡ Err e
    → None ≡ number_up_to 18446744073709551615 w
not_parsed w r e h p same =
    let digits = parse_digits own 64 w r p (digits_of w h) in
    err_read (digits_value 10 w) (length w) r e (length_of w h) digits same
