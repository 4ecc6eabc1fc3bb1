-- Names and bytes in hexadecimal as parts of lines.
use Rattle.std.proofs.{Common.{◌≡◌, ◌<◌, ◌==◌, ℕ, nat_le, true, false, List, [], ◌∷◌, ◌++◌, None, codes, length, refl, arith}, lemmas.Bool.and_parts, lemmas.Bool.Decides.nat_tests}
use Rattle.std.specs.Char.{is_ascii_alphabetic}
use Rattle.plan_reader.specs.{declared.limits.TheConstants.MOST_MORE_CHARACTERS, Names.{are_name_bytes, is_name, is_name_byte, is_name_rest}}
use Rattle.trace_text.specs.{RoundTrip.lacks_byte, Words.behind_word}

-- Names

letter_differs : (byte b : ℕ) → byte < 46 → is_ascii_alphabetic b ≡ true → (b == byte) ≡ false
letter_differs byte b low h = grind (arith, nat_tests, h, low)

name_byte_differs : (byte b : ℕ) → byte < 45 → is_name_byte b ≡ true → (b == byte) ≡ false
unfolding is_name_byte
name_byte_differs byte b low h = grind (arith, nat_tests, h, low)

rest_lacks : (byte : ℕ) (bs : List ℕ) → byte < 45 → are_name_bytes bs ≡ true → lacks_byte byte bs ≡ true
rest_lacks byte [] low h = refl
rest_lacks byte (b ∷ bs) low h =
    let (first, others) = and_parts (is_name_byte b) (are_name_bytes bs) h in
    rw (name_byte_differs byte b low first, rest_lacks byte bs low others) refl

-- a name has no byte below those of names
pub name_lacks : (byte : ℕ) (name : List ℕ) → byte < 45 → is_name name ≡ true → lacks_byte byte name ≡ true
name_lacks byte [] low h = refl
name_lacks byte (b ∷ bs) low h =
    let (first, others) = and_parts (is_ascii_alphabetic b) (is_name_rest bs) h in
    let (short, bytes) = and_parts (nat_le (length bs) MOST_MORE_CHARACTERS) (are_name_bytes bs) others in
    rw (letter_differs byte b (omega (arith, low)) first, rest_lacks byte bs low bytes) refl

-- what begins with a name is no post
pub no_post : (name text : List ℕ) → is_name name ≡ true → behind_word (codes "- post ") (name ++ text) ≡ None
no_post [] text h = absurd (cc (h))
no_post (b ∷ bs) text h =
    let (first, others) = and_parts (is_ascii_alphabetic b) (is_name_rest bs) h in
    rw (letter_differs 45 b (omega arith) first) refl
