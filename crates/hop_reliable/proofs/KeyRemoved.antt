-- A list whose keys rise: the element that has a key, and no other, goes with it.
use Rattle.std.proofs.Common.{◌≡◌, ◌≢◌, ◌<◌, ℕ, zero, suc, ◌==◌, true, not, List, [], ◌∷◌, length, get_or, refl, ap, sym, arith, AllPairs}
use Rattle.std.specs.{Prelude.filter, List.remove}
use Rattle.ason_base.proofs.{KeyedLists.pairs-tail, Numbers.equal-not}

module _ {X : Type 0} (key : X → ℕ) where
  -- where nothing has the key, nothing goes
  pub all-stay : (number : ℕ) (xs : List X) → ((k : ℕ) (d : X) → k < length xs → key (get_or xs k d) ≢ number)
      → filter (λ x. not (key x == number)) xs ≡ xs
  all-stay number [] other = refl
  all-stay number (x ∷ xs) other =
      rw (equal-not (key x) number (other 0 x (omega arith)))
      (ap (λ ys. x ∷ ys) (all-stay number xs (λ k d within. other (suc k) d (omega arith))))

  -- what has the key is the only one that goes
  pub one-goes : (number : ℕ) (xs : List X) (i : ℕ) → AllPairs (λ x y. key x < key y) xs → i < length xs
      → ((d : X) → key (get_or xs i d) ≡ number)
      → remove xs i ≡ filter (λ x. not (key x == number)) xs
  one-goes number [] i rising within is = absurd (omega arith)
  one-goes number (x ∷ xs) zero rising within is =
      let same : (key x == number) ≡ true = (let equal : key x ≡ number = is x in grind arith) in
      rw same (sym (all-stay number xs later))
    where
      later : (k : ℕ) (d : X) → k < length xs → key (get_or xs k d) ≢ number
      later k d h equal =
          let first : key x ≡ number = is x in
          let above : key x < key (get_or xs k d) = rising 0 (suc k) d (omega arith) (omega arith) in
          absurd (omega arith)
  one-goes number (x ∷ xs) (suc i) rising within is =
      let less : key x < key (get_or xs i x) = rising 0 (suc i) x (omega arith) (omega arith) in
      let equal : key (get_or xs i x) ≡ number = is x in
      rw (equal-not (key x) number (λ same. absurd (omega arith)))
      (ap (λ ys. x ∷ ys) (one-goes number xs i (pairs-tail (λ y z. key y < key z) x xs rising) (omega arith)
      (λ d. is d)))
