-- Texts are parted at the byte that stands between their parts.
use Rattle.std.proofs.{Common.{◌≡◌, ◌∙◌, ◌+◌, ◌==◌, ℕ, suc, nat_lt, true, not, List, [], ◌∷◌, ◌++◌, Some, length, take, drop, position, refl, ap, arith, length-append}, lemmas.Bool.and_parts, lemmas.List.Folds.list_all-append}
use Rattle.std.specs.{List.position_or_len, Prelude.bytes_eq}
use Rattle.trace_text.specs.{RoundTrip.lacks_byte, Words.{behind_word, parted, parts_at}}

pub front : (xs ys : List ℕ) → take (length xs) (xs ++ ys) ≡ xs
front [] ys = refl
front (x ∷ xs) ys = ap (λ (l : List ℕ). x ∷ l) (front xs ys)

pub back : (xs : List ℕ) (y : ℕ) (ys : List ℕ) → drop (length xs + 1) (xs ++ y ∷ ys) ≡ ys
back [] y ys = refl
back (x ∷ xs) y ys = let e : length (x ∷ xs) + 1 ≡ suc (length xs + 1) = omega arith in rw e (back xs y ys)

pub rest_of : (xs ys : List ℕ) → drop (length xs) (xs ++ ys) ≡ ys
rest_of [] ys = refl
rest_of (x ∷ xs) ys = rest_of xs ys

pub same_bytes : (xs : List ℕ) → bytes_eq xs xs ≡ true
same_bytes [] = refl
same_bytes (x ∷ xs) = let t : (x == x) ≡ true = grind arith in rw (t, same_bytes xs) refl

-- what stands in neither text stands in none
pub lacks_both : (byte : ℕ) (xs ys : List ℕ) → lacks_byte byte xs ≡ true → lacks_byte byte ys ≡ true →
    lacks_byte byte (xs ++ ys) ≡ true
lacks_both byte xs ys first second = list_all-append (λ b. not (b == byte)) xs ys ∙ rw (first, second) refl

first_at : (at : ℕ) (xs ys : List ℕ) → lacks_byte at xs ≡ true →
    position_or_len (λ b. b == at) (xs ++ at ∷ ys) ≡ length xs
first_at at [] ys h = let t : (at == at) ≡ true = grind arith in rw t refl
first_at at (x ∷ xs) ys h =
    let parts = and_parts (not (x == at)) (lacks_byte at xs) h in
    rw (parts.0, first_at at xs ys parts.1) (omega arith)

-- a text is parted at the first such byte
pub parted_there : (at : ℕ) (xs ys : List ℕ) → lacks_byte at xs ≡ true → parted at (xs ++ at ∷ ys) ≡ Some (xs, ys)
parted_there at xs ys h =
    let longer : nat_lt (length xs) (length (xs ++ at ∷ ys)) ≡ true = grind (arith, length-append xs (at ∷ ys)) in
    let here : position (λ b. b == at) (xs ++ at ∷ ys) ≡ Some (length xs) = rw (first_at at xs ys h, longer) refl in
    ap (parts_at (xs ++ at ∷ ys)) here ∙ (λ i. Some (front xs (at ∷ ys) i, back xs at ys i))

-- what is behind a word
pub word_read : (word text : List ℕ) → behind_word word (word ++ text) ≡ Some text
word_read word text = rw (front word text, same_bytes word, rest_of word text) refl
