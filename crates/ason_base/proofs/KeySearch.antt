-- A binary search by a key that rises: it finds the one element with the key, and where it finds none, none has it.
use Rattle.std.proofs.{Common.{◌≡◌, ◌≢◌, ◌≤◌, ◌<◌, ℕ, zero, suc, ◌==◌, true, false, cond, List, [], ◌∷◌, length, get_or, refl, subst, sym, arith, AllPairs, Ok, Err, Some, None, Less, Greater, inl, inr, ◌⊎◌}, lemmas.Bool.Decides.nat_tests, lemmas.Cmp.ranked}
use Rattle.std.specs.{Prelude.find, List.Sorted.{IsBinarySearchResult, IsNonDecreasingBy, IsPartitionPoint}, Ordering.{nat_cmp, ordering_index}}
use Rattle.ason_base.proofs.Numbers.{equal-not}

module _ {X : Type 0} (key : X → ℕ) where
  KeysRise : List X → Type 0
  KeysRise xs = AllPairs (λ x y. key x < key y) xs

  comparisons_rise : (xs : List X) (number : ℕ) → KeysRise xs
      → IsNonDecreasingBy (λ x. ordering_index (nat_cmp (key x) number)) xs
  unfolding KeysRise
  comparisons_rise xs number rising i j d below within = by_place (by_order i j below)
    where
      by_order : (a b : ℕ) → a ≤ b → (a ≡ b) ⊎ (a < b)
      by_order a b h = grind arith

      ranks : (m n : ℕ) → m < n → ordering_index (nat_cmp m number) ≤ ordering_index (nat_cmp n number)
      ranks m n less = grind (arith, nat_tests)

      by_place : (i ≡ j) ⊎ (i < j) → ordering_index (nat_cmp (key (get_or xs i d)) number) ≤ ordering_index
          (nat_cmp (key (get_or xs j d)) number)
      by_place p = elim p [
        | inl same ↦ subst (λ k. ordering_index (nat_cmp (key (get_or xs i d)) number) ≤ ordering_index
            (nat_cmp (key (get_or xs k d)) number)) same (omega arith)
        | inr before ↦ ranks (key (get_or xs i d)) (key (get_or xs j d)) (rising i j d before within)
      ]

  -- what is found has the key
  pub found-key : (xs : List X) (number i : ℕ) → IsBinarySearchResult (λ x. nat_cmp (key x) number) xs (Ok i)
      → (d : X) → key (get_or xs i d) ≡ number
  found-key xs number i found d = ranked (key (get_or xs i d)) number _ (sym (found d))

  -- where nothing is found, nothing has the key
  pub no-key : (xs : List X) (number i : ℕ) → AllPairs (λ x y. key x < key y) xs
      → IsBinarySearchResult (λ x. nat_cmp (key x) number) xs (Err i)
      → (k : ℕ) (d : X) → k < length xs → key (get_or xs k d) ≢ number
  unfolding KeysRise
  no-key xs number i rising absent k d within equal = elim (by_order k i) [
    | inl before ↦ (let less : key (get_or xs k d) < number =
        ranked (key (get_or xs k d)) number _
        (sym (parted.0 k d (omega arith) before)) in absurd (omega arith))
    | inr after ↦ (let more : number < key (get_or xs k d) =
        ranked (key (get_or xs k d)) number _ (sym (parted.1 k d after within)) in absurd
        (omega arith))
  ]
    where
      parted : IsPartitionPoint (λ x. nat_cmp (key x) number ≡ Less)
          (λ x. nat_cmp (key x) number ≡ Greater) xs i
      parted = absent (comparisons_rise xs number rising)

      by_order : (a b : ℕ) → (a < b) ⊎ (b ≤ a)
      by_order a b = grind arith

  -- so the first with the key is the one that is found
  pub find-found : (xs : List X) (number i : ℕ) (d : X) → AllPairs (λ x y. key x < key y) xs → i < length xs
      → key (get_or xs i d) ≡ number → find (λ x. key x == number) xs ≡ Some (get_or xs i d)
  find-found [] number i d rising within is = absurd (omega arith)
  find-found (x ∷ xs) number zero d rising within is =
      let same : (key x == number) ≡ true = grind arith in
      subst (λ b. cond b (Some x) (find (λ y. key y == number) xs) ≡ Some x) (sym same) refl
  find-found (x ∷ xs) number (suc i) d rising within is =
      let less : key x < key (get_or xs i d) = rising 0 (suc i) d (omega arith) (omega arith) in
      let other : (key x == number) ≡ false = equal-not (key x) number (λ same. absurd (omega arith)) in
      subst (λ b. cond b (Some x) (find (λ y. key y == number) xs) ≡ Some (get_or xs i d)) (sym other)
      (find-found xs number i d (λ a b e before h. rising (suc a) (suc b) e (omega arith) (omega arith))
      (omega arith) is)

  pub find-none : (xs : List X) (number : ℕ) → ((k : ℕ) (d : X) → k < length xs → key (get_or xs k d) ≢ number)
      → find (λ x. key x == number) xs ≡ None
  find-none [] number other = refl
  find-none (x ∷ xs) number other =
      subst (λ b. cond b (Some x) (find (λ y. key y == number) xs) ≡ None)
      (sym (equal-not (key x) number (other 0 x (omega arith))))
      (find-none xs number (λ k d within. other (suc k) d (omega arith)))
