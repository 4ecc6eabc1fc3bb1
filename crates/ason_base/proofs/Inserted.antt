-- A list in order, in which one more is put.
use Rattle.std.proofs.{Common.{◌≡◌, ◌≤◌, ◌<◌, ◌+◌, ◌-◌, ℕ, Bool, true, false, List, ◌∷◌, take, drop, length, get_or, refl, sym, ap, subst, ◌∙◌, arith, inl, inr}, lemmas.Bool.cases_lt, lemmas.List.take-append-drop, lemmas.List.Edits.{get_or-insert_above, get_or-insert_at, get_or-insert_below, length-insert}, lemmas.List.Folds.list_any-append}
use Rattle.std.specs.{Prelude.{◌⊎◌, ◌||◌, insert}, List.{AllPairs, list_any}}
use Rattle.ason_base.proofs.Numbers.{less-or-same}

third-first : (a b c : Bool) → (a || (b || c)) ≡ (b || (a || c))
third-first true true c = refl
third-first true false c = refl
third-first false b c = refl

-- what a list has in which one more is put
pub any-insert : {X : Type 0} (p : X → Bool) (xs : List X) (n : ℕ) (y : X) →
    list_any p (insert xs n y) ≡ (p y || list_any p xs)
any-insert p xs n y =
    list_any-append p (take n xs) (y ∷ drop n xs)
    ∙ third-first (list_any p (take n xs)) (p y) (list_any p (drop n xs))
    ∙ ap (λ b. p y || b) (sym (list_any-append p (take n xs) (drop n xs)) ∙ ap (list_any p) (take-append-drop n xs))

-- where all before it and all after it stand so to it, as they do to one another, they do so with it
pub rises-insert : {X : Type 0} (R : X → X → Type 0) (xs : List X) (n : ℕ) (y : X) → n ≤ length xs → AllPairs R xs →
    ((k : ℕ) (d : X) → k < n → R (get_or xs k d) y) → ((k : ℕ) (d : X) → n ≤ k → k < length xs → R y (get_or xs k d)) →
    AllPairs R (insert xs n y)
rises-insert {X} R xs n y le pairs before after i j d less within = go (cases_lt i n) (cases_lt j n)
  where
    longer : length (insert xs n y) ≡ length xs + 1
    longer = length-insert xs n y le

    low : (k : ℕ) → k < n → get_or (insert xs n y) k d ≡ get_or xs k d
    low k below = get_or-insert_below xs n y d k below le

    here : (k : ℕ) → k ≡ n → get_or (insert xs n y) k d ≡ y
    here k is = subst (λ m. get_or (insert xs n y) m d ≡ y) (sym is) (get_or-insert_at xs n y d le)

    high : (k : ℕ) → n < k → get_or (insert xs n y) k d ≡ get_or xs (k - 1) d
    high k above = subst (λ m. get_or (insert xs n y) m d ≡ get_or xs (k - 1) d) {x = k - 1 + 1} (omega arith)
        (get_or-insert_above xs n y d (k - 1) (omega arith) le)

    pair : (x z : X) → get_or (insert xs n y) i d ≡ x → get_or (insert xs n y) j d ≡ z → R x z →
        R (get_or (insert xs n y) i d) (get_or (insert xs n y) j d)
    pair x z e f r = subst (λ w. R w (get_or (insert xs n y) j d)) (sym e) (subst (λ w. R x w) (sym f) r)

    go : (i < n) ⊎ (n ≤ i) → (j < n) ⊎ (n ≤ j) → R (get_or (insert xs n y) i d) (get_or (insert xs n y) j d)
    go (inl a) (inl b) = pair (get_or xs i d) (get_or xs j d) (low i a) (low j b) (pairs i j d less (omega arith))
    go (inl a) (inr b) = elim (less-or-same n j b) [
      | inl above ↦ pair (get_or xs i d) (get_or xs (j - 1) d) (low i a) (high j above)
          (pairs i (j - 1) d (omega (arith, a, above)) (omega (arith, within, longer, above)))
      | inr is ↦ pair (get_or xs i d) y (low i a) (here j (sym is)) (before i d a)
    ]
    go (inr a) (inl b) = absurd (omega arith)
    go (inr a) (inr b) = elim (less-or-same n i a) [
      | inl above ↦ pair (get_or xs (i - 1) d) (get_or xs (j - 1) d) (high i above)
          (high j (omega (arith, above, less))) (pairs (i - 1) (j - 1) d (omega (arith, above, less))
          (omega (arith, within, longer, above, less)))
      | inr is ↦ pair y (get_or xs (j - 1) d) (here i (sym is)) (high j (omega (arith, is, less)))
          (after (j - 1) d (omega (arith, is, less)) (omega (arith, within, longer, is, less)))
    ]
