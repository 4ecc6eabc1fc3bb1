-- Lists: what holds of each element, and what stands at a place.
use Rattle.std.proofs.Common.{◌≡◌, ℕ, ◌≤◌, zero, suc, Some, List, [], ◌∷◌, ◌++◌, length, take, refl, ap, arith}
use Rattle.std.specs.List.{AllByRecursion, slice_get}

pub each-more : {X : Type 0} (P Q : X → Type 0) (f : (x : X) → P x → Q x) (xs : List X) → AllByRecursion P xs →
    AllByRecursion Q xs
each-more P Q f [] p = tt
each-more P Q f (x ∷ xs) p = (f x p.0, each-more P Q f xs p.1)

pub get-append_left : {X : Type 0} (xs ys : List X) (k : ℕ) (x : X) → slice_get xs k ≡ Some x →
    slice_get (xs ++ ys) k ≡ Some x
get-append_left [] ys k x e = absurd (cc)
get-append_left (y ∷ xs) ys zero x e = e
get-append_left (y ∷ xs) ys (suc k) x e = get-append_left xs ys k x e

pub take_next : {X : Type 0} (xs : List X) (k : ℕ) (x : X) → slice_get xs k ≡ Some x → take (suc k) xs ≡ take k xs ++
    x ∷ []
take_next [] k x e = absurd (cc)
take_next (y ∷ xs) zero x e = let same : y ≡ x = cc in ap (λ z. z ∷ []) same
take_next (y ∷ xs) (suc k) x e = ap (λ zs. y ∷ zs) (take_next xs k x e)

pub length-take_within : {X : Type 0} (xs : List X) (k : ℕ) → k ≤ length xs → length (take k xs) ≡ k
length-take_within xs zero h = refl
length-take_within [] (suc k) h = absurd (omega arith)
length-take_within (x ∷ xs) (suc k) h = ap suc (length-take_within xs k (omega arith))
