-- Rising lists of numbers.
use Rattle.std.proofs.{Common.{◌≡◌, ◌≤◌, ◌<◌, ◌+◌, ◌⊎◌, inl, inr, ℕ, zero, suc, Bool, true, false, cond, nat_eq, List, [], ◌∷◌, ◌++◌, filter, sym, ap, ◌∙◌, arith}, lemmas.Bool.{or_cases, or_left, or_right}}
use Rattle.std.specs.{Prelude.◌||◌, List.range_with_len}
use Rattle.round_rules.specs.{Rings.is_number_in, Rounds.NumbersRise}
use Rattle.round_rules.proofs.Numbers.{in-append, rises-above}
use Rattle.round_laws.proofs.Climbing.{AreIn, in_above}

-- the later part of a rising list rises
pub rise_right : (n : ℕ) (xs ys : List ℕ) → NumbersRise n (xs ++ ys) → NumbersRise n ys
rise_right n [] ys up = up
rise_right n (x ∷ xs) ys up = rises-above n x ys (omega (arith, up.0)) (rise_right x xs ys up.1)

-- numbers one after the other rise
pub rise_range : (n k : ℕ) → NumbersRise n (range_with_len (n + 1) k)
rise_range n zero = tt
rise_range n (suc k) = (omega arith, rise_range (n + 1) k)

-- two rising lists are one where the second begins above all of the first
pub rise_join : (n m : ℕ) (xs ys : List ℕ) → n ≤ m → NumbersRise n xs → ((k : ℕ) → is_number_in xs k ≡ true → k ≤ m) →
    NumbersRise m ys → NumbersRise n (xs ++ ys)
rise_join n m [] ys le up most above = rises-above n m ys le above
rise_join n m (x ∷ xs) ys le up most above =
    (up.0, rise_join x m xs ys (most x (here x xs)) up.1 (λ k is. most k (later x xs k is)) above)
  where
    here : (x : ℕ) (xs : List ℕ) → is_number_in (x ∷ xs) x ≡ true
    here x xs = let same : nat_eq x x ≡ true = grind arith in ap (λ b. b || is_number_in xs x) same

    later : (x : ℕ) (xs : List ℕ) (k : ℕ) → is_number_in xs k ≡ true → is_number_in (x ∷ xs) k ≡ true
    later x xs k h = grind (arith, h)

-- Members

-- it is in both where it is in the second
pub in_right : (xs ys : List ℕ) (k : ℕ) → is_number_in ys k ≡ true → is_number_in (xs ++ ys) k ≡ true
in_right xs ys k is = in-append xs ys k ∙ or_right (is_number_in xs k) (is_number_in ys k) is

-- and it is in one of them
pub in_either : (xs ys : List ℕ) (k : ℕ) → is_number_in (xs ++ ys) k ≡ true →
    (is_number_in xs k ≡ true) ⊎ (is_number_in ys k ≡ true)
in_either xs ys k is = or_cases (is_number_in xs k) (is_number_in ys k) (sym (in-append xs ys k) ∙ is)

-- what a test leaves was there
pub of_filter : (p : ℕ → Bool) (xs : List ℕ) (k : ℕ) → is_number_in (filter p xs) k ≡ true → is_number_in xs k ≡ true
of_filter p [] k is = is
of_filter p (x ∷ xs) k is = go (p x) is (of_filter p xs k)
  where
    go : (b : Bool) → is_number_in (cond b (x ∷ filter p xs) (filter p xs)) k ≡ true →
        (is_number_in (filter p xs) k ≡ true → is_number_in xs k ≡ true) → is_number_in (x ∷ xs) k ≡ true
    go true is rest =
        elim (or_cases (nat_eq x k) (is_number_in (filter p xs) k) is) [
          | inl h ↦ or_left (nat_eq x k) (is_number_in xs k) h
          | inr h ↦ or_right (nat_eq x k) (is_number_in xs k) (rest h)
        ]
    go false is rest = or_right (nat_eq x k) (is_number_in xs k) (rest is)

-- and what passes the test stays
pub in_filter : (p : ℕ → Bool) (xs : List ℕ) (k : ℕ) → is_number_in xs k ≡ true → p k ≡ true →
    is_number_in (filter p xs) k ≡ true
in_filter p [] k is may = is
in_filter p (x ∷ xs) k is may =
    elim (or_cases (nat_eq x k) (is_number_in xs k) is) [
      | inl h ↦ here h
      | inr h ↦ there (p x) (in_filter p xs k h may)
    ]
  where
    here : nat_eq x k ≡ true → is_number_in (filter p (x ∷ xs)) k ≡ true
    here h =
        let same : x ≡ k = grind (arith, h) in
        let passes : p x ≡ true = ap p same ∙ may in
        ap (λ b. is_number_in (cond b (x ∷ filter p xs) (filter p xs)) k) passes ∙ or_left (nat_eq x k) (is_number_in (filter p xs) k) h

    there : (b : Bool) → is_number_in (filter p xs) k ≡ true →
        is_number_in (cond b (x ∷ filter p xs) (filter p xs)) k ≡ true
    there true rest = or_right (nat_eq x k) (is_number_in (filter p xs) k) rest
    there false rest = rest

-- which numbers are in a range
pub of_range : (a c k : ℕ) → is_number_in (range_with_len a c) k ≡ true → (a ≤ k) × (k < a + c)
of_range a zero k is = absurd (cc (is))
of_range a (suc c) k is =
    elim (or_cases (nat_eq a k) (is_number_in (range_with_len (a + 1) c) k) is) [
      | inl h ↦ let same : a ≡ k = grind (arith, h) in (omega (arith, same), omega (arith, same))
      | inr h ↦ let r = of_range (a + 1) c k h in (omega (arith, r.0), omega (arith, r.1))
    ]
