-- Parts of texts that were written one after the other.
use Rattle.std.proofs.{Common.{◌≡◌, ◌<◌, ◌+◌, ℕ, zero, suc, List, [], ◌∷◌, ◌++◌, Option, length, take, refl, ap, sym, subst, ◌∙◌, arith, length-append}, KnownBytes.Appends-trans}
use Rattle.std.specs.Io.KnownBytes.{Appends}
use Rattle.trace_text.specs.Written.{AppendsPart}

take_front : (xs ys : List ℕ) (n : ℕ) → n < length xs → take n (xs ++ ys) ≡ take n xs
take_front [] ys n h = absurd (omega (arith, h))
take_front (x ∷ xs) ys zero h = refl
take_front (x ∷ xs) ys (suc n) h = ap (λ (l : List ℕ). x ∷ l) (take_front xs ys n (omega (arith, h)))

take_behind : (xs ys : List ℕ) (n : ℕ) → take (length xs + n) (xs ++ ys) ≡ xs ++ take n ys
take_behind [] ys n = let same : 0 + n ≡ n = omega arith in ap (λ (k : ℕ). take k ys) same
take_behind (x ∷ xs) ys n =
    let more : length (x ∷ xs) + n ≡ suc (length xs + n) = omega arith in
    ap (λ (k : ℕ). take k (x ∷ (xs ++ ys))) more ∙ ap (λ (l : List ℕ). x ∷ l) (take_behind xs ys n)

-- a part of the first text is a part of both
pub part_first : (a b : Option (List ℕ)) (xs ys : List ℕ) → AppendsPart a b xs → AppendsPart a b (xs ++ ys)
part_first a b xs ys (n, less, written) = (
  n,
  (let longer : length (xs ++ ys) ≡ length xs + length ys = length-append xs ys in omega (arith, longer, less)),
  subst (Appends a b) (sym (take_front xs ys n less)) written,
)

-- the first text and a part of the second are a part of both
pub part_second : (a b c : Option (List ℕ)) (xs ys : List ℕ) → Appends a b xs → AppendsPart b c ys →
    AppendsPart a c (xs ++ ys)
part_second a b c xs ys first (n, less, written) = (
  length xs + n,
  (let longer : length (xs ++ ys) ≡ length xs + length ys = length-append xs ys in omega (arith, longer, less)),
  subst (Appends a c) (sym (take_behind xs ys n)) (Appends-trans a b c xs (take n ys) first written),
)
