-- The rows of the legs up to a place.
use Rattle.std.proofs.{Common.{◌≡◌, ◌<◌, ◌+◌, ℕ, List, [], ◌∷◌, ◌++◌, length, take, ap, ◌∙◌, arith}, lemmas.List.{map-append, take_more}, lemmas.Option.{get_or_from_slice_get, slice_get-get_or, slice_get_within}}
use Rattle.std.specs.Prelude.{Some, None, map, slice_get}

pub map-more : {X Y : Type 0} (f : X → Y) (xs : List X) (i : ℕ) (x : X) → slice_get xs i ≡ Some x →
    map f (take (i + 1) xs) ≡ map f (take i xs) ++ f x ∷ []
map-more f xs i x is =
    ap (map f)
    (take_more xs i x (slice_get_within xs i x is)
    ∙ ap (λ y. take i xs ++ y ∷ []) (get_or_from_slice_get xs i x x is))
    ∙ map-append f (take i xs) (x ∷ [])

pub one-within : {X : Type 0} (xs : List X) (i : ℕ) → slice_get xs i ≡ None → i < length xs → ⊥
one-within [] i none within = omega (arith, within)
one-within (x ∷ xs) i none within = cc (none, slice_get-get_or (x ∷ xs) i x within)
