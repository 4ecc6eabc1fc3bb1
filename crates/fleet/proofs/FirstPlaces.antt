-- The first place at which something holds, found by a loop over the places.
use Rattle.std.proofs.Common.{◌≡◌, ◌≤◌, ◌<◌, ◌+◌, ℕ, zero, suc, Bool, true, false, cond, not, nat_lt, List, [], ◌∷◌, le-ltb, lt-ltb, add-one, drop, get_or, length, refl, sym, ap, ◌∙◌, subst, arith}
use Rattle.std.specs.{Prelude.{None, Some, position}, List.position_or_len}

module _ {X : Type 0} (p : X → Bool) where
  next_drop : (xs : List X) (i : ℕ) (d : X) → i < length xs → p (get_or xs i d) ≡ false →
      position_or_len p (drop i xs) ≡ 1 + position_or_len p (drop (suc i) xs)
  next_drop [] i d below fails = absurd (omega (arith, below))
  next_drop (x ∷ xs) zero d below fails = ap (λ b. cond (not b) (1 + position_or_len p xs) 0) fails
  next_drop (x ∷ xs) (suc i) d below fails = next_drop xs i d (omega (arith, below)) fails

  here_drop : (xs : List X) (i : ℕ) (d : X) → i < length xs → p (get_or xs i d) ≡ true →
      position_or_len p (drop i xs) ≡ 0
  here_drop [] i d below holds = absurd (omega (arith, below))
  here_drop (x ∷ xs) zero d below holds = ap (λ b. cond (not b) (1 + position_or_len p xs) 0) holds
  here_drop (x ∷ xs) (suc i) d below holds = here_drop xs i d (omega (arith, below)) holds

  past_drop : (xs : List X) (i : ℕ) → length xs ≤ i → position_or_len p (drop i xs) ≡ 0
  past_drop [] zero past = refl
  past_drop [] (suc i) past = refl
  past_drop (x ∷ xs) zero past = absurd (omega (arith, past))
  past_drop (x ∷ xs) (suc i) past = past_drop xs i (omega (arith, past))

  later : (a i b c : ℕ) → a ≡ i + b → b ≡ 1 + c → a ≡ suc i + c
  later a i b c e f = omega (arith, e, f)

  just : (a i b : ℕ) → a ≡ i + b → b ≡ 0 → a ≡ i
  just a i b e f = omega (arith, e, f)

  -- it doesn't hold there
  pub found-on : (xs : List X) (i : ℕ) (d : X) → i < length xs → p (get_or xs i d) ≡ false →
      position_or_len p xs ≡ i + position_or_len p (drop i xs) →
      position_or_len p xs ≡ (i + 1) + position_or_len p (drop (i + 1) xs)
  found-on xs i d below fails so =
      subst (λ k. position_or_len p xs ≡ k + position_or_len p (drop k xs)) (sym (add-one i))
      (later (position_or_len p xs) i (position_or_len p (drop i xs)) (position_or_len p (drop (suc i) xs)) so
      (next_drop xs i d below fails))

  -- it does
  pub found-there : (xs : List X) (i : ℕ) (d : X) → i < length xs → p (get_or xs i d) ≡ true →
      position_or_len p xs ≡ i + position_or_len p (drop i xs) → position p xs ≡ Some i
  found-there xs i d below holds so =
      ap (λ k. cond (nat_lt k (length xs)) (Some k) None)
      (just (position_or_len p xs) i (position_or_len p (drop i xs)) so (here_drop xs i d below holds))
      ∙ ap (λ b. cond b (Some i) None) (lt-ltb i (length xs) below)

  -- no place is left
  pub found-none : (xs : List X) (i : ℕ) → length xs ≤ i →
      position_or_len p xs ≡ i + position_or_len p (drop i xs) → position p xs ≡ None
  found-none xs i past so =
      ap (λ k. cond (nat_lt k (length xs)) (Some k) None)
      (just (position_or_len p xs) i (position_or_len p (drop i xs)) so (past_drop xs i past))
      ∙ ap (λ b. cond b (Some i) None) (le-ltb i (length xs) past)
