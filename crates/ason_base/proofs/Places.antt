-- Facts on what stands at the places of a list.
use Rattle.std.proofs.{Common.{List, zero, ◌∷◌, ℕ, ◌≡◌, suc, [], subst, refl, ap, length, ◌<◌, arith, Some, ◌++◌, ◌⊎◌, inr, inl, ◌+◌, sym, get_or, take, ◌∙◌}, lemmas.List.take_more}
use Rattle.std.specs.{Prelude.{slice_get, slice_set}, List.AllByRecursion}

-- What holds of all elements holds of that at a place.
pub all-at : {X : Type 0} (P : X → Type 0) (xs : List X) (k : ℕ) (x : X) → AllByRecursion P xs → slice_get xs k ≡ Some x → P x
all-at P [] k x all is = absurd (cc (is))
all-at P (y ∷ xs) zero x all is = let same : y ≡ x = cc (is) in subst P same all.0
all-at P (y ∷ xs) (suc k) x all is = all-at P xs k x all.1 is

-- What holds at every place holds of all elements.
pub all-by_place : {X : Type 0} (P : X → Type 0) (xs : List X) →
    ((place : ℕ) (x : X) → slice_get xs place ≡ Some x → P x) → AllByRecursion P xs
all-by_place P [] each = tt
all-by_place P (x ∷ xs) each = (each 0 x refl, all-by_place P xs (λ place y there. each (suc place) y there))

-- A list is as long after a write.
pub length-set : {X : Type 0} (xs : List X) (place : ℕ) (y : X) → length (slice_set xs place y) ≡ length xs
length-set [] place y = refl
length-set (x ∷ xs) zero y = refl
length-set (x ∷ xs) (suc place) y = ap suc (length-set xs place y)

-- An element stands at each place below the length.
pub there-at : {X : Type 0} (xs : List X) (place : ℕ) → place < length xs → (x : X) × (slice_get xs place ≡ Some x)
there-at [] place below = absurd (omega (arith, below))
there-at (x ∷ xs) zero below = (x, refl)
there-at (x ∷ xs) (suc place) below = there-at xs place (omega (arith, below))

-- The last element is that which was pushed.
pub get-last : {X : Type 0} (xs : List X) (y : X) → slice_get (xs ++ y ∷ []) (length xs) ≡ Some y
get-last [] y = refl
get-last (x ∷ xs) y = get-last xs y

-- What stands at a place after a push stood there before, or is what was pushed.
pub get-pushed : {X : Type 0} (xs : List X) (y : X) (k : ℕ) (x : X) → slice_get (xs ++ y ∷ []) k ≡ Some x →
    (slice_get xs k ≡ Some x) ⊎ ((k ≡ length xs) × (y ≡ x))
get-pushed [] y zero x e = inr (refl, cc)
get-pushed [] y (suc k) x e = absurd (cc)
get-pushed (z ∷ xs) y zero x e = inl e
get-pushed (z ∷ xs) y (suc k) x e =
    elim (get-pushed xs y k x e) [ inl before ↦ inl before | inr last ↦ inr (ap suc last.0, last.1) ]

-- One element more at the front of a list.
pub take-item : {X : Type 0} (xs : List X) (i : ℕ) (x : X) → i < length xs → x ≡ get_or xs i x →
    take (i + 1) xs ≡ take i xs ++ x ∷ []
take-item xs i x below is = take_more xs i x below ∙ ap (λ y. take i xs ++ y ∷ []) (sym is)
