-- A list that is split at a place, of which an item is read in each part, and changes.
use Rattle.std.proofs.{Common.{◌≡◌, ◌<◌, ℕ, zero, suc, List, [], ◌∷◌, ◌++◌, get_or, length, take, drop, refl, ap, ◌∙◌, arith}, lemmas.Option.get_or_from_slice_get}
use Rattle.std.specs.Prelude.{Some, slice_get, slice_set}

pub get-take : {X : Type 0} (xs : List X) (b i : ℕ) → i < b → slice_get (take b xs) i ≡ slice_get xs i
get-take [] zero i below = absurd (omega arith)
get-take [] (suc b) i below = refl
get-take (x ∷ xs) zero i below = absurd (omega arith)
get-take (x ∷ xs) (suc b) zero below = refl
get-take (x ∷ xs) (suc b) (suc i) below = get-take xs b i (omega arith)

pub get-drop : {X : Type 0} (xs : List X) (b : ℕ) → slice_get (drop b xs) 0 ≡ slice_get xs b
get-drop [] zero = refl
get-drop [] (suc b) = refl
get-drop (x ∷ xs) zero = refl
get-drop (x ∷ xs) (suc b) = get-drop xs b

-- what is read in the first part, and first in the second, is what stands at both places
pub record AreReadInParts {X : Type 0} (low high : List X) (place : ℕ) (x y a b : X) : Type 0 where
  pub here_at : slice_get low place ≡ Some x
  pub there_at : slice_get high 0 ≡ Some y
  pub here : a ≡ x
  pub there : b ≡ y

-- It is so where the list was split between both places.
pub read-both : {X : Type 0} (xs low high : List X) (i b : ℕ) (x y l h : X) → i < b → slice_get xs i ≡ Some x →
    slice_get xs b ≡ Some y → low ≡ take b xs → high ≡ drop b xs → l ≡ get_or low i l → h ≡ get_or high 0 h →
    AreReadInParts low high i x y l h
read-both xs low high i b x y l h below at there front back first last =
    let low_at : slice_get low i ≡ Some x = ap (λ zs. slice_get zs i) front ∙ get-take xs b i below ∙ at in
    let high_at : slice_get high 0 ≡ Some y = ap (λ zs. slice_get zs 0) back ∙ get-drop xs b ∙ there in
    record {
      here_at = low_at;
      there_at = high_at;
      here = first ∙ get_or_from_slice_get low i x l low_at;
      there = last ∙ get_or_from_slice_get high 0 y h high_at;
    }

set-drop : {X : Type 0} (xs : List X) (b : ℕ) (y : X) → b < length xs →
    take b xs ++ slice_set (drop b xs) 0 y ≡ slice_set xs b y
set-drop [] b y within = absurd (omega arith)
set-drop (x ∷ xs) zero y within = refl
set-drop (x ∷ xs) (suc b) y within = ap (λ zs. x ∷ zs) (set-drop xs b y (omega arith))

-- one in the first part, and then the first of the second
pub set-low : {X : Type 0} (xs : List X) (i b : ℕ) (x y : X) → i < b → b < length xs →
    slice_set (take b xs) i x ++ slice_set (drop b xs) 0 y ≡ slice_set (slice_set xs i x) b y
set-low [] i b x y below within = absurd (omega arith)
set-low (z ∷ zs) i zero x y below within = absurd (omega arith)
set-low (z ∷ zs) zero (suc b) x y below within = ap (λ ws. x ∷ ws) (set-drop zs b y (omega arith))
set-low (z ∷ zs) (suc i) (suc b) x y below within = ap (λ ws. z ∷ ws)
    (set-low zs i b x y (omega arith) (omega arith))

-- items at two places change in either order
set_apart : {X : Type 0} (xs : List X) (i b : ℕ) (x y : X) → i < b →
    slice_set (slice_set xs i x) b y ≡ slice_set (slice_set xs b y) i x
set_apart [] i b x y below = refl
set_apart (z ∷ zs) i zero x y below = absurd (omega arith)
set_apart (z ∷ zs) zero (suc b) x y below = refl
set_apart (z ∷ zs) (suc i) (suc b) x y below = ap (λ ws. z ∷ ws) (set_apart zs i b x y (omega arith))

-- the first of the second part, and then one in the first
pub set-high : {X : Type 0} (xs : List X) (i b : ℕ) (x y : X) → i < b → b < length xs →
    slice_set (take b xs) i y ++ slice_set (drop b xs) 0 x ≡ slice_set (slice_set xs b x) i y
set-high xs i b x y below within = set-low xs i b y x below within ∙ set_apart xs i b y x below

-- a whole vector, as a slice of all of it leaves it
pub whole : {X : Type 0} (xs ys : List X) (n : ℕ) → length xs ≡ n → xs ≡ take n (xs ++ drop (length xs) ys)
whole xs ys n e = go xs (drop (length xs) ys) ∙ ap (λ m. take m (xs ++ drop (length xs) ys)) e
  where
    go : {X : Type 0} (us zs : List X) → us ≡ take (length us) (us ++ zs)
    go [] zs = refl
    go (u ∷ us) zs = ap (λ ws. u ∷ ws) (go us zs)
