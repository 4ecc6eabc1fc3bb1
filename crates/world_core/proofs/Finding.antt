-- The first of a list that passes a test.
use Rattle.std.proofs.{Common.{◌≡◌, ◌<◌, ℕ, zero, suc, Bool, true, false, cond, nat_lt, List, [], ◌∷◌, length, get_or, refl, sym, ap, ◌∙◌, subst}, lemmas.List.Folds.find_at, lemmas.List.Quantifiers.position-Some, lemmas.Option.{cond_some, slice_get-get_or}}
use Rattle.std.specs.{Prelude.{Some, None, find, is_some, position, slice_get}, List.{AllByRecursion, position_or_len}}

-- the place that was found
pub record IsFirst {X : Type 0} (p : X → Bool) (xs : List X) (i : ℕ) : Type 0 where
  pub item : X
  pub there : slice_get xs i ≡ Some item
  pub within : i < length xs
  pub place : i ≡ position_or_len p xs
  pub passes : p item ≡ true
  pub found : find p xs ≡ Some item

pub is-first : {X : Type 0} (p : X → Bool) (xs : List X) (i : ℕ) → position p xs ≡ Some i → IsFirst p xs i
is-first p [] i at = absurd (cc (at))
is-first {X} p (x ∷ xs) i at = record {
  item = get_or (x ∷ xs) i x;
  there = there;
  within = facts.0;
  place = sym place;
  passes = facts.1;
  found = find_at p (x ∷ xs) ∙ ap (slice_get (x ∷ xs)) place ∙ there;
}
  where
    facts : (i < length (x ∷ xs)) × (p (get_or (x ∷ xs) i x) ≡ true)
        × ((k : ℕ) → k < i → p (get_or (x ∷ xs) k x) ≡ false)
    facts = position-Some p (x ∷ xs) i x at

    place : position_or_len p (x ∷ xs) ≡ i
    place = (cond_some (nat_lt (position_or_len p (x ∷ xs)) (length (x ∷ xs))) (position_or_len p (x ∷ xs)) i at).1

    there : slice_get (x ∷ xs) i ≡ Some (get_or (x ∷ xs) i x)
    there = slice_get-get_or (x ∷ xs) i x facts.0

-- what is found passes, and what holds of all holds of it
pub found-has : {X : Type 0} (p : X → Bool) (P : X → Type 0) (xs : List X) (x : X) → AllByRecursion P xs →
    find p xs ≡ Some x → (p x ≡ true) × P x
found-has p P [] x all e = absurd (cc (e))
found-has {X} p P (y ∷ ys) x all e = go (p y) refl (found-has p P ys x all.1) e
  where
    go : (b : Bool) → p y ≡ b → (find p ys ≡ Some x → (p x ≡ true) × P x) →
        cond b (Some y) (find p ys) ≡ Some x → (p x ≡ true) × P x
    go true t later h = let same : y ≡ x = cc (h) in subst (λ z. (p z ≡ true) × P z) same (t, all.0)
    go false t later h = later h

-- what is found by one test and passes another is found by that too
pub also-found : {X : Type 0} (p q : X → Bool) (xs : List X) (x : X) → find p xs ≡ Some x → q x ≡ true →
    find q xs ≡ None → ⊥
also-found p q [] x e t none = absurd (cc (e))
also-found {X} p q (y ∷ ys) x e t none = go (p y) (q y) refl (also-found p q ys x) e none
  where
    go : (b c : Bool) → q y ≡ c → (find p ys ≡ Some x → q x ≡ true → find q ys ≡ None → ⊥) →
        cond b (Some y) (find p ys) ≡ Some x → cond c (Some y) (find q ys) ≡ None → ⊥
    go b true k later h n = absurd (cc (n))
    go true false k later h n = let same : y ≡ x = cc (h) in absurd (cc (k, ap q same, t))
    go false false k later h n = later h t n

-- what stands in the list and passes is found, or another before it
pub item-found : {X : Type 0} (p : X → Bool) (xs : List X) (i : ℕ) (x : X) → slice_get xs i ≡ Some x → p x ≡ true →
    is_some (find p xs) ≡ true
item-found p [] i x e t = absurd (cc (e))
item-found p (y ∷ ys) zero x e t = let same : y ≡ x = cc (e) in rw (ap p same ∙ t) refl
item-found {X} p (y ∷ ys) (suc i) x e t = go (p y) (item-found p ys i x e t)
  where
    go : (b : Bool) → is_some (find p ys) ≡ true → is_some (cond b (Some y) (find p ys)) ≡ true
    go true later = refl
    go false later = later
