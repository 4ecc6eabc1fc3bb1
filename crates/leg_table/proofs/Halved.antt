-- What halving finds in a list in order, and what a change at that place makes of the list.
use Rattle.std.proofs.{Common.{◌≡◌, ◌≤◌, ◌<◌, ◌+◌, ℕ, suc, Bool, true, false, cond, not, nat_lt, List, [], ◌∷◌, length, get_or, refl, sym, ap, subst, ◌∙◌, arith, inl, inr, one-add}, lemmas.Bool.{cases_lt, not-false, not-true}, lemmas.List.Folds.find_at, lemmas.List.Quantifiers.position-Some, lemmas.List.Sums.{fails_before_first, passes_at_first, position_or_len_is}}
use Rattle.std.specs.{Prelude.{◌⊎◌, Some, None, find, filter, position, slice_get}, List.{position_or_len, remove}, List.Sorted.{IsPartitionPoint, IsPartitionedBy}}
use Rattle.ason_base.proofs.{Finding.place-is, Bools.{false-back, not-both}, Numbers.less-or-same}

-- The list

-- those that pass `from` come last, and none after the first of them is the one that is sought
pub record InOrder {X : Type 0} (same from : X → Bool) (xs : List X) : Type 0 where
  pub reaches : (x : X) → same x ≡ true → from x ≡ true
  pub last : (i j : ℕ) (d : X) → i < j → j < length xs → from (get_or xs i d) ≡ true → from (get_or xs j d) ≡ true
  pub once : (i j : ℕ) (d : X) → i < j → j < length xs → from (get_or xs i d) ≡ true → same (get_or xs j d) ≡ false

pub parted : {X : Type 0} (same from : X → Bool) (xs : List X) → InOrder same from xs →
    IsPartitionedBy (λ x. not (from x)) xs
parted {X} same from xs o i j d le within e = go (less-or-same i j le) (from (get_or xs i d)) refl
  where
    go : (i < j) ⊎ (i ≡ j) → (b : Bool) → from (get_or xs i d) ≡ b → not (from (get_or xs i d)) ≡ true
    go (inl below) true f = absurd (not-both (from (get_or xs j d)) (o.last i j d below within f)
        (not-true (from (get_or xs j d)) e))
    go (inl below) false f = rw f refl
    go (inr is) b f = subst (λ k. not (from (get_or xs k d)) ≡ true) (sym is) e

-- The place

first_is : {X : Type 0} (from : X → Bool) (xs : List X) (i : ℕ) (d : X) → i ≤ length xs →
    IsPartitionPoint (λ x. not (from x) ≡ true) (λ x. not (from x) ≡ false) xs i → i ≡ position_or_len from xs
first_is from xs i d within parted =
    sym (position_or_len_is from xs i d within
    (λ k below. not-true (from (get_or xs k d)) (parted.0 k d (omega arith) below))
    (λ inside. not-false (from (get_or xs i d)) (parted.1 i d (omega arith) inside)))

pub point-is : {X : Type 0} (from : X → Bool) (xs : List X) (i : ℕ) → i ≤ length xs →
    IsPartitionPoint (λ x. not (from x) ≡ true) (λ x. not (from x) ≡ false) xs i → i ≡ position_or_len from xs
point-is from [] i within parted = omega arith
point-is from (x ∷ xs) i within parted = first_is from (x ∷ xs) i x within parted

position_at : {X : Type 0} (same : X → Bool) (xs : List X) (n : ℕ) → position_or_len same xs ≡ n → n < length xs →
    position same xs ≡ Some n
position_at same xs n is below =
    let test : nat_lt n (length xs) ≡ true = grind arith in
    rw (is, test) refl

position_nowhere : {X : Type 0} (same : X → Bool) (xs : List X) → position_or_len same xs ≡ length xs →
    position same xs ≡ None
position_nowhere same xs is =
    let test : nat_lt (length xs) (length xs) ≡ false = grind arith in
    rw (is, test) refl

-- the first place from which all pass is that of the one that is sought
pub found-at : {X : Type 0} (same from : X → Bool) (xs : List X) (n : ℕ) → InOrder same from xs →
    n ≡ position_or_len from xs → n < length xs → ((d : X) → same (get_or xs n d) ≡ true) → position same xs ≡ Some n
found-at same from [] n o place below here = absurd (omega arith)
found-at same from (x ∷ xs) n o place below here =
    position_at same (x ∷ xs) n
    (position_or_len_is same (x ∷ xs) n x (omega arith)
    (λ k less. false-back _ _ (o.reaches (get_or (x ∷ xs) k x))
    (fails_before_first from (x ∷ xs) k x (subst (λ m. k < m) place less)))
    (λ inside. here x))
    below

-- or it isn't there
pub absent-at : {X : Type 0} (same from : X → Bool) (xs : List X) (n : ℕ) → InOrder same from xs →
    n ≡ position_or_len from xs → ((d : X) → n < length xs → same (get_or xs n d) ≡ false) →
    ((d : X) → n < length xs → from (get_or xs n d) ≡ true) → position same xs ≡ None
absent-at same from [] n o place here passes = refl
absent-at {X} same from (x ∷ xs) n o place here passes =
    position_nowhere same (x ∷ xs) (position_or_len_is same (x ∷ xs) (length (x ∷ xs)) x (omega arith)
    (λ k below. fails k below (cases_lt k n)) (λ inside. absurd (omega arith)))
  where
    fails : (k : ℕ) → k < length (x ∷ xs) → (k < n) ⊎ (n ≤ k) → same (get_or (x ∷ xs) k x) ≡ false
    fails k below (inl less) = false-back _ _ (o.reaches (get_or (x ∷ xs) k x))
        (fails_before_first from (x ∷ xs) k x (subst (λ m. k < m) place less))
    fails k below (inr more) = elim (less-or-same n k more) [
      | inl after ↦ o.once n k x after below (passes x (omega (arith, after, below)))
      | inr is ↦ subst (λ m. same (get_or (x ∷ xs) m x) ≡ false) is (here x (omega (arith, is, below)))
    ]

-- What is found there

pub find-place : {X : Type 0} (same : X → Bool) (xs : List X) (n : ℕ) → position same xs ≡ Some n →
    find same xs ≡ slice_get xs n
find-place same xs n e = find_at same xs ∙ ap (slice_get xs) (place-is same xs n e)

past_end : {X : Type 0} (same : X → Bool) (xs : List X) → position same xs ≡ None → length xs ≤ position_or_len same xs
past_end same xs e =
    let far : nat_lt (position_or_len same xs) (length xs) ≡ false =
    none_is (nat_lt (position_or_len same xs) (length xs)) (position_or_len same xs) e in
    grind arith
  where
    none_is : (b : Bool) (n : ℕ) → cond b (Some n) None ≡ None → b ≡ false
    none_is true n e = absurd (cc e)
    none_is false n e = refl

-- One taken off

filter-all : {X : Type 0} (same : X → Bool) (xs : List X) →
    ((k : ℕ) (d : X) → k < length xs → same (get_or xs k d) ≡ false) → filter (λ x. not (same x)) xs ≡ xs
filter-all same [] none = refl
filter-all same (x ∷ xs) none =
    let here : same x ≡ false = none 0 x (omega arith) in
    rw here (ap (λ ys. x ∷ ys) (filter-all same xs (λ k d below. none (suc k) d (omega arith))))

pub filter-nowhere : {X : Type 0} (same : X → Bool) (xs : List X) → position same xs ≡ None →
    filter (λ x. not (same x)) xs ≡ xs
filter-nowhere same xs e = filter-all same xs
    (λ k d below. fails_before_first same xs k d (omega (arith, past_end same xs e, below)))

pub filter-first : {X : Type 0} (same : X → Bool) (xs : List X) →
    ((i j : ℕ) (d : X) → i < j → j < length xs → same (get_or xs i d) ≡ true → same (get_or xs j d) ≡ false) →
    position_or_len same xs < length xs → filter (λ x. not (same x)) xs ≡ remove xs (position_or_len same xs)
filter-first same [] once below = absurd (omega arith)
filter-first {X} same (x ∷ xs) once below = go (same x) refl below
    (filter-first same xs (λ i j d less within e. once (suc i) (suc j) d (omega arith) (omega arith) e))
  where
    n : ℕ
    n = position_or_len same xs

    go : (b : Bool) → same x ≡ b → cond (not b) (1 + n) 0 < length (x ∷ xs) →
        (n < length xs → filter (λ y. not (same y)) xs ≡ remove xs n) →
        cond (not b) (x ∷ filter (λ y. not (same y)) xs) (filter (λ y. not (same y)) xs) ≡ remove (x ∷ xs)
        (cond (not b) (1 + n) 0)
    go true e less later = filter-all same xs (λ k d within. once 0 (suc k) d (omega arith) (omega arith) e)
    go false e less later = rw (one-add n) (ap (λ ys. x ∷ ys) (later (omega (arith, less))))

-- the one at the place of the first that passes, in a list in order
pub filter-at : {X : Type 0} {from : X → Bool} (same : X → Bool) (xs : List X) (i : ℕ) (d : X) → InOrder same from xs →
    position same xs ≡ Some i → filter (λ x. not (same x)) xs ≡ remove xs i
filter-at same xs i d o e =
    let first = place-is same xs i e in
    let within = (position-Some same xs i d e).0 in
    subst (λ n. filter (λ x. not (same x)) xs ≡ remove xs n) first
    (filter-first same xs (λ a b d less below here. o.once a b d less below (o.reaches (get_or xs a d) here))
    (subst (λ n. n < length xs) (sym first) within))

-- One changed

pub passes-first : {X : Type 0} (from : X → Bool) (xs : List X) (n : ℕ) (d : X) → n ≡ position_or_len from xs →
    n < length xs → from (get_or xs n d) ≡ true
passes-first from xs n d place below = subst (λ m. from (get_or xs m d) ≡ true) (sym place)
    (passes_at_first from xs d (subst (λ m. m < length xs) place below))
