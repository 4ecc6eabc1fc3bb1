-- Facts on what a list's `find` and `position` give.
use Rattle.std.proofs.{Common.{true, cond, List, Bool, ◌∷◌, ◌≡◌, [], subst, false, refl, ◌+◌, ◌<◌, arith, not, suc, length, ℕ, nat_lt, ◌∙◌, ◌≤◌}, lemmas.List.Folds.find_at, lemmas.Option.slice_get_past}
use Rattle.std.specs.{Prelude.{Some, find, ◌||◌, position, None}, List.{AllByRecursion, list_any, position_or_len}}
use Rattle.ason_base.proofs.Options.{some-when}

-- What holds of all elements holds of the one that is found.
pub found-of_all : {X : Type 0} (P : X → Type 0) (p : X → Bool) (xs : List X) (x : X) → find p xs ≡ Some x →
    AllByRecursion P xs → P x
found-of_all P p [] x found all = cc
found-of_all P p (y ∷ ys) x found all =
    elim (p y) as (λ b. cond b (Some y) (find p ys) ≡ Some x → P x) [
      | true ↦ λ f. let is : y ≡ x = cc in subst P is all.0
      | false ↦ λ f. found-of_all P p ys x f all.1
    ] found

-- What is found passes.
pub found-passes : {X : Type 0} (p : X → Bool) (xs : List X) (x : X) → find p xs ≡ Some x → p x ≡ true
found-passes p [] x e = cc
found-passes p (y ∷ xs) x e = go (p y) refl e (found-passes p xs x)
  where
    go : (b : Bool) → p y ≡ b → cond b (Some y) (find p xs) ≡ Some x → (find p xs ≡ Some x → p x ≡ true) → p x ≡ true
    go true test e later = let is : y ≡ x = cc e in subst (λ z. p z ≡ true) is test
    go false test e later = later e

-- Where some element passes, the first that does stands within the list.
pub place-within : {X : Type 0} (p : X → Bool) (xs : List X) → list_any p xs ≡ true → position_or_len p xs < length xs
place-within p [] h = absurd (cc h)
place-within {X} p (x ∷ xs) h = go (p x) h (place-within p xs)
  where
    go : (b : Bool) → (b || list_any p xs) ≡ true → (list_any p xs ≡ true → position_or_len p xs < length xs) →
        cond (not b) (1 + position_or_len p xs) 0 < suc (length xs)
    go true h later = omega arith
    go false h later = omega (arith, later h)

-- The place of the first that passes, as `position` tells it.
pub place-is : {X : Type 0} (p : X → Bool) (xs : List X) (i : ℕ) → position p xs ≡ Some i → position_or_len p xs ≡ i
place-is p xs i e = some-when (nat_lt (position_or_len p xs) (length xs)) (position_or_len p xs) i e

-- Nothing is found where there is no place.
pub found-nowhere : {X : Type 0} (p : X → Bool) (xs : List X) → position p xs ≡ None → find p xs ≡ None
found-nowhere p xs none =
    find_at p xs ∙ slice_get_past xs (position_or_len p xs) (past (nat_lt (position_or_len p xs) (length xs)) refl none)
  where
    above : (a b : ℕ) → nat_lt a b ≡ false → b ≤ a
    above a b h = grind arith

    past : (b : Bool) → nat_lt (position_or_len p xs) (length xs) ≡ b →
        cond b (Some (position_or_len p xs)) None ≡ None → length xs ≤ position_or_len p xs
    past true e h = absurd (cc (h))
    past false e h = above (position_or_len p xs) (length xs) e
