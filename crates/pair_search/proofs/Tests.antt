-- Tests of two facts, of two numbers, and of each item of a list.
use Rattle.std.proofs.{Common.{◌≡◌, Bool, true, List, [], ◌∷◌, refl, subst, inl, inr, Contains}, lemmas.Bool.and_from}
use Rattle.std.specs.List.{list_all}
use Rattle.ason_base.proofs.{Bools.{and-right, and-left}, Members.{contains-cases, contains-head, contains-tail, contains-none}}

pub all-at : {X : Type 0} (p : X → Bool) (xs : List X) → list_all p xs ≡ true → (x : X) → Contains xs x → p x ≡ true
all-at p [] e x there = absurd (contains-none x there)
all-at p (y ∷ ys) e x there = elim (contains-cases y x ys there) [
  | inl is ↦ subst (λ z. p z ≡ true) is (and-left (p y) (list_all p ys) e)
  | inr later ↦ all-at p ys (and-right (p y) (list_all p ys) e) x later
]

pub at-all : {X : Type 0} (p : X → Bool) (xs : List X) → ((x : X) → Contains xs x → p x ≡ true) → list_all p xs ≡ true
at-all p [] each = refl
at-all p (y ∷ ys) each =
    and_from (p y) (list_all p ys) (each y (contains-head y ys))
    (at-all p ys (λ x there. each x (contains-tail y x ys there)))
