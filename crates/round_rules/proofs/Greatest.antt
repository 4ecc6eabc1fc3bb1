-- The greatest of the clocks of a record.
use Rattle.std.proofs.Common.{◌≡◌, ◌≤◌, ℕ, Bool, true, false, nat_le, List, [], ◌∷◌, refl, sym, ◌∙◌, subst, arith, inl, inr}
use Rattle.std.specs.{Prelude.{◌⊎◌, fold, max}, List.Contains}
use Rattle.ason_base.proofs.Members.{contains-cases, contains-head, contains-tail, contains-none}
use Rattle.world_merge.specs.Deeds.{Deed, stamp_of}

-- the greatest of these
abbrev pub greatest : {X : Type 0} → (X → ℕ) → ℕ → List X → ℕ
greatest {X} f k xs = fold (λ (j : ℕ) (x : X). max j (f x)) k xs

-- the greater of two is one of them
pub greater : (a b : ℕ) → (max a b ≡ a) ⊎ (max a b ≡ b)
greater a b = go (nat_le a b) refl
  where
    second : nat_le a b ≡ true → max a b ≡ b
    second e = grind (arith, e)

    first : nat_le a b ≡ false → max a b ≡ a
    first e = grind (arith, e)

    go : (c : Bool) → nat_le a b ≡ c → (max a b ≡ a) ⊎ (max a b ≡ b)
    go true e = inr (second e)
    go false e = inl (first e)

from_start : {X : Type 0} (f : X → ℕ) (k : ℕ) (xs : List X) → k ≤ greatest f k xs
from_start f k [] = omega arith
from_start f k (x ∷ xs) = let rest = from_start f (max k (f x)) xs in omega (arith, rest)

-- none is above it
pub greatest-above : {X : Type 0} (f : X → ℕ) (k : ℕ) (xs : List X) (x : X) → Contains xs x → f x ≤ greatest f k xs
greatest-above f k [] x there = absurd (contains-none x there)
greatest-above {X} f k (y ∷ xs) x there = elim (contains-cases y x xs there) [
  | inl is ↦ subst (λ (z : X). f z ≤ greatest f k (y ∷ xs)) is
      (let rest = from_start f (max k (f y)) xs in omega (arith, rest))
  | inr later ↦ greatest-above f (max k (f y)) xs x later
]

-- it is the first number, or that of one of these
pub greatest-found : {X : Type 0} (f : X → ℕ) (k : ℕ) (xs : List X) →
    (greatest f k xs ≡ k) ⊎ ((x : X) × Contains xs x × (f x ≡ greatest f k xs))
greatest-found f k [] = inl refl
greatest-found {X} f k (y ∷ xs) = go (greatest-found f (max k (f y)) xs) (greater k (f y))
  where
    go : (greatest f (max k (f y)) xs ≡ max k (f y)) ⊎
        ((x : X) × Contains xs x × (f x ≡ greatest f (max k (f y)) xs)) →
        (max k (f y) ≡ k) ⊎ (max k (f y) ≡ f y) →
        (greatest f k (y ∷ xs) ≡ k) ⊎ ((x : X) × Contains (y ∷ xs) x × (f x ≡ greatest f k (y ∷ xs)))
    go (inl same) (inl first) = inl (same ∙ first)
    go (inl same) (inr second) = inr (y, contains-head y xs, sym (same ∙ second))
    go (inr later) either = inr (later.0, contains-tail y later.0 xs later.1, later.2)

-- The clock is 0, or the stamp of a deed.
pub clock-found : (s : ℕ) (ds : List Deed) →
    (fold (λ (k : ℕ) (d : Deed). stamp_of d) s ds ≡ s) ⊎
    ((d : Deed) × Contains ds d × (stamp_of d ≡ fold (λ (k : ℕ) (e : Deed). stamp_of e) s ds))
clock-found s [] = inl refl
clock-found s (d ∷ ds) = go (clock-found (stamp_of d) ds)
  where
    last : ℕ
    last = fold (λ (k : ℕ) (e : Deed). stamp_of e) (stamp_of d) ds

    go : (last ≡ stamp_of d) ⊎ ((e : Deed) × Contains ds e × (stamp_of e ≡ last)) →
        (last ≡ s) ⊎ ((e : Deed) × Contains (d ∷ ds) e × (stamp_of e ≡ last))
    go (inl same) = inr (d, contains-head d ds, sym same)
    go (inr later) = inr (later.0, contains-tail d later.0 ds later.1, later.2)
