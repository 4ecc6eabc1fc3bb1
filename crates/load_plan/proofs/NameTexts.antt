-- Generated names are names.
use Rattle.std.proofs.{Common.{◌≡◌, ◌<◌, ◌≤◌, ◌+◌, ◌/◌, ◌%◌, ◌==◌, ℕ, zero, suc, Bool, true, false, nat_le, cond, List, [], ◌∷◌, length, refl, arith}, lemmas.Bool.Decides.nat_tests, lemmas.Fmt.length-decimal-le}
use Rattle.std.specs.Fmt.{decimal, digit_glyph, digits, digits_onto}
use Rattle.ason_base.specs.declared.limits.TheConstants.{MOST_CALLS}
use Rattle.plan_reader.specs.{declared.limits.TheConstants.MOST_MORE_CHARACTERS, Names.{are_name_bytes, is_name, is_name_byte, is_name_rest}}
use Rattle.load_plan.specs.{Names.name_at, declared.names.Named.Named, declared.names.Named.TheVariants.{Node, Call}}

digit_fits : (d : ℕ) → d < 10 → is_name_byte (digit_glyph false d) ≡ true
unfolding is_name_byte
digit_fits d h = grind (arith, nat_tests)

digits_fit :
    (k n : ℕ) (bytes : List ℕ) → are_name_bytes bytes ≡ true → are_name_bytes (digits_onto k 10 false n bytes) ≡ true
digits_fit zero n bytes h = h
digits_fit (suc k) n bytes h =
    go (n / 10 == 0) (digits_fit k (n / 10) (digit_glyph false (n % 10) ∷ bytes) more)
  where
    more : are_name_bytes (digit_glyph false (n % 10) ∷ bytes) ≡ true
    more = rw (digit_fits (n % 10) (omega arith), h) refl

    go :
        (b : Bool)
        → are_name_bytes (digits_onto k 10 false (n / 10) (digit_glyph false (n % 10) ∷ bytes)) ≡ true
        → are_name_bytes (cond b (digit_glyph false (n % 10) ∷ bytes)
        (digits_onto k 10 false (n / 10) (digit_glyph false (n % 10) ∷ bytes))) ≡ true
    go true later = more
    go false later = later

number_fits : (n : ℕ) → n < 10000 → is_name_rest (decimal n) ≡ true
unfolding digits
number_fits n h =
    let short : length (decimal n) ≤ 4 = length-decimal-le 4 n (omega arith) (omega arith) (omega arith) in
    let few : nat_le (length (decimal n)) MOST_MORE_CHARACTERS ≡ true = by_size (length (decimal n)) short in
    rw (few, digits_fit 64 n [] refl) refl
  where
    by_size : (m : ℕ) → m ≤ 4 → nat_le m MOST_MORE_CHARACTERS ≡ true
    by_size m h = grind arith

-- a letter and a number make a name
pub names_fit : (named : Named) (i : ℕ) → i < MOST_CALLS → is_name (name_at named i) ≡ true
names_fit Node i h = number_fits (i + 1) (omega arith)
names_fit Call i h = number_fits (i + 1) (omega arith)
