-- Numbers that rise, so that one is found by halving.
use Rattle.std.proofs.{Common.{◌≡◌, ◌≤◌, ◌<◌, ℕ, ◌+◌, ◌==◌, Bool, true, false, cond, List, [], ◌∷◌, ◌++◌, length, get_or, take, drop, refl, ap, subst, sym, ◌∙◌, arith, Result, Ok, Err, ◌⊎◌, inl, inr}, lemmas.List.{get_or_default, length-append, take-append-drop}, lemmas.List.Elements.Contains-get_or, lemmas.List.Folds.list_any-append, lemmas.List.Sorted.{IsNonDecreasingBy-insert, searched}}
use Rattle.std.specs.{Prelude.{◌||◌, is_ok}, List.{insert, list_any}, List.Sorted.{IsBinarySearchResult, IsNonDecreasing}, Ordering.nat_cmp}
use Rattle.ason_base.proofs.{Ordered.{any-there, there-any}, Numbers.equal-self}
use Rattle.flood.specs.State.{with_end}

abbrev pub lists_number : List ℕ → ℕ → Bool
lists_number xs n = list_any (λ m. m == n) xs

abbrev pub IsSought : ℕ → List ℕ → Result ℕ ℕ → Type 0
IsSought x xs r = IsBinarySearchResult (λ y. nat_cmp y x) xs r

pub found_is_there : (xs : List ℕ) (x i : ℕ) → IsNonDecreasing xs → IsSought x xs (Ok i) → lists_number xs x ≡ true
found_is_there xs x i rising sought =
    let found = searched xs x (Ok i) sought (λ j k le within. rising j k 0 le within) in
    subst (λ y. lists_number xs y ≡ true) found.1
    (there-any (λ m. m == get_or xs i 0) xs (get_or xs i 0) (Contains-get_or xs i 0 found.0)
    (equal-self (get_or xs i 0)))

pub missed_is_not : (xs : List ℕ) (x i : ℕ) → IsNonDecreasing xs → IsSought x xs (Err i) → lists_number xs x ≡ false
missed_is_not xs x i rising sought = by_test (lists_number xs x) refl
  where
    missed : (i ≤ length xs) × ((k : ℕ) → k < i → get_or xs k 0 < x) ×
        ((k : ℕ) → i ≤ k → k < length xs → x < get_or xs k 0)
    missed = searched xs x (Err i) sought (λ j k le within. rising j k 0 le within)

    order : (a b : ℕ) → (a < b) ⊎ (b ≤ a)
    order a b = grind arith

    none : (k : ℕ) → k < length xs → (get_or xs k 0 == x) ≡ true → ⊥
    none k within same =
        let is : get_or xs k 0 ≡ x = grind arith in
        elim (order k i) [
          | inl below ↦ (let less : get_or xs k 0 < x = missed.1 k below in absurd (omega arith))
          | inr above ↦ (let less : x < get_or xs k 0 = missed.2 k above within in absurd (omega arith))
        ]

    by_test : (b : Bool) → lists_number xs x ≡ b → lists_number xs x ≡ false
    by_test true e =
        let found = any-there (λ m. m == x) xs e in
        let at : get_or xs found.1.0 0 ≡ found.0 = get_or_default xs found.1.0 0 found.0 found.1.1 ∙ found.1.2 in
        absurd (none found.1.0 found.1.1 (ap (λ y. y == x) at ∙ found.2))
    by_test false e = e

pub sought_is : (xs ys : List ℕ) (x : ℕ) (r : Result ℕ ℕ) → ys ≡ xs → IsNonDecreasing xs → IsSought x ys r
    → is_ok r ≡ lists_number xs x
sought_is xs ys x (Ok i) same rising sought =
    sym (found_is_there xs x i rising (subst (λ zs. IsSought x zs (Ok i)) same sought))
sought_is xs ys x (Err i) same rising sought =
    sym (missed_is_not xs x i rising (subst (λ zs. IsSought x zs (Err i)) same sought))

-- One number more

swapped : (a b c : Bool) → (a || (c || b)) ≡ ((a || b) || c)
swapped true b c = refl
swapped false true true = refl
swapped false true false = refl
swapped false false true = refl
swapped false false false = refl

pub has-insert : (xs : List ℕ) (i x n : ℕ) → lists_number (insert xs i x) n ≡ (lists_number xs n || (x == n))
has-insert xs i x n =
    list_any-append (λ m. m == n) (take i xs) (x ∷ drop i xs)
    ∙ swapped (lists_number (take i xs) n) (lists_number (drop i xs) n) (x == n)
    ∙ ap (λ b. b || (x == n)) (sym (list_any-append (λ m. m == n) (take i xs) (drop i xs)) ∙
    ap (λ zs. lists_number zs n) (take-append-drop i xs))

pub rising-insert : (xs : List ℕ) (i x : ℕ) → IsNonDecreasing xs → IsSought x xs (Err i)
    → IsNonDecreasing (insert xs i x)
rising-insert xs i x rising sought =
    let missed = searched xs x (Err i) sought (λ j k le within. rising j k 0 le within) in
    IsNonDecreasingBy-insert (λ y. y) xs i x rising missed.0
    (λ k d below.
    (let at : get_or xs k d ≡ get_or xs k 0 = get_or_default xs k d 0 (let most = missed.0 in omega arith) in
    let less : get_or xs k 0 < x = missed.1 k below in
    omega arith))
    (λ k d above within.
    (let at : get_or xs k d ≡ get_or xs k 0 = get_or_default xs k d 0 within in
    let less : x < get_or xs k 0 = missed.2 k above within in
    omega arith))

-- a number that is there already
pub has_again : (xs : List ℕ) (x n : ℕ) → lists_number xs x ≡ true → lists_number xs n ≡ (lists_number xs n || (x == n))
has_again xs x n there = by_test (x == n) refl
  where
    or_true : (b : Bool) → b ≡ true → b ≡ (b || true)
    or_true true h = refl
    or_true false h = h

    or_false : (b : Bool) → b ≡ (b || false)
    or_false true = refl
    or_false false = refl

    by_test : (b : Bool) → (x == n) ≡ b → lists_number xs n ≡ (lists_number xs n || b)
    by_test true e = or_true (lists_number xs n) (let same : x ≡ n = grind arith in subst (λ m. lists_number xs m ≡ true) same there)
    by_test false e = or_false (lists_number xs n)

-- How many there are then

pub inserted_count : (xs : List ℕ) (i x : ℕ) → lists_number xs x ≡ false →
    length (insert xs i x) ≡ length (with_end xs x)
inserted_count xs i x new = subst (λ b. length (insert xs i x) ≡ length (cond b xs (xs ++ x ∷ []))) (sym new) longer
  where
    longer : length (take i xs ++ x ∷ drop i xs) ≡ length (xs ++ x ∷ [])
    longer =
        let parted : length (take i xs ++ x ∷ drop i xs) ≡ length (take i xs) + length (x ∷ drop i xs) =
        length-append (take i xs) (x ∷ drop i xs) in
        let joined : length (take i xs ++ drop i xs) ≡ length (take i xs) + length (drop i xs) =
        length-append (take i xs) (drop i xs) in
        let whole : length (take i xs ++ drop i xs) ≡ length xs = ap length (take-append-drop i xs) in
        let one : length (xs ++ x ∷ []) ≡ length xs + 1 = length-append xs (x ∷ []) in
        omega arith

pub same_count : (xs : List ℕ) (x : ℕ) → lists_number xs x ≡ true → length xs ≡ length (with_end xs x)
same_count xs x there = subst (λ b. length xs ≡ length (cond b xs (xs ++ x ∷ []))) (sym there) refl
