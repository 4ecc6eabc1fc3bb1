-- The labels that a mask stands for, under each operation on masks.
use Rattle.std.proofs.{Common.{◌≡◌, ◌≢◌, ◌≤◌, ◌<◌, ◌+◌, ◌-◌, ◌*◌, ◌%◌, ◌^◌, ℕ, zero, suc, Bool, true, false, cond, not, nat_eq, List, [], ◌∷◌, refl, sym, ap, ◌∙◌, arith, bit_and, bit_or, min, add-one}, lemmas.Nat.Bits.{bit_at_and, bit_at-lt, bit_at-zero, bit_at_mask_inside, bit_at_mask_above, bit_at_clear_same, bit_at_clear_other, bit_at_set_same, bit_at_set_other}, lemmas.Nat.pow_pos, Math.Pow.pow-lt, Math.Nat.{pow-suc, mod-eq_of_lt}, Math.Bool.{and-false, and-true, or-true}}
use Rattle.std.specs.{Prelude.{◌&&◌, ◌||◌, filter, slice_get, Some, None}, Int.{bit_at, w128}}
use Rattle.ason_base.specs.{declared.limits.TheConstants.MOST_LABELS, Labels.{numbers_from, up_to, has, meet, with_label, without, least, is_label_marked, members}}
use Rattle.ason_base.proofs.Numbers.{self-number}

-- Tests

-- Sets as filters of a list

kept_test : (here seen q : Bool) → (here ≡ true → q ≡ true) → (here || (seen && q)) ≡ ((here || seen) && q)
kept_test true seen q f = sym (f refl)
kept_test false seen q f = refl

dropped_test : (here seen q : Bool) → (here ≡ true → q ≡ false) → (seen && q) ≡ ((here || seen) && q)
dropped_test true seen q f = rw (f refl) (and-false seen)
dropped_test false seen q f = refl

test_of_same : (q : ℕ → Bool) (x l : ℕ) (b : Bool) → q x ≡ b → nat_eq x l ≡ true → q l ≡ b
test_of_same q x l b e s = let same : x ≡ l = grind arith in rw (← same) e

pub has-filter : (q : ℕ → Bool) (xs : List ℕ) (l : ℕ) → has (filter q xs) l ≡ (has xs l && q l)
has-filter q [] l = refl
has-filter q (x ∷ xs) l =
    elim (q x) as (λ b. q x ≡ b → has (cond b (x ∷ filter q xs) (filter q xs)) l ≡ ((nat_eq x l || has xs l) && q l)) [
      | true ↦ λ e. rw (has-filter q xs l) (kept_test (nat_eq x l) (has xs l) (q l) (test_of_same q x l true e))
      | false ↦ λ e. rw (has-filter q xs l) (dropped_test (nat_eq x l) (has xs l) (q l) (test_of_same q x l false e))
    ] refl

-- two tests that agree on the members of a list keep the same of it
pub filter-agree : (p q : ℕ → Bool) (xs : List ℕ) → ((l : ℕ) → has xs l ≡ true → p l ≡ q l) → filter p xs ≡ filter q xs
filter-agree p q [] agree = refl
filter-agree p q (x ∷ xs) agree =
    rw (agree x (rw (self-number x) refl), filter-agree p q xs (λ l h. agree l (rw h (or-true (nat_eq x l))))) refl

-- one filter after another is the filter by both tests
pub filter-filter : (p q : ℕ → Bool) (xs : List ℕ) → filter q (filter p xs) ≡ filter (λ l. p l && q l) xs
filter-filter p q [] = refl
filter-filter p q (x ∷ xs) =
    elim (p x) as (λ b. filter q (cond b (x ∷ filter p xs) (filter p xs)) ≡ cond (b && q x)
    (x ∷ filter (λ l. p l && q l) xs) (filter (λ l. p l && q l) xs)) [
      | true ↦ rw (filter-filter p q xs) refl
      | false ↦ filter-filter p q xs
    ]

-- Runs of numbers

pub has-numbers : (n first l : ℕ) → first ≤ l → l < first + n → has (numbers_from first n) l ≡ true
unfolding numbers_from
has-numbers zero first l low high = absurd (omega arith)
has-numbers (suc n) first l low high =
    elim (nat_eq first l) as (λ b. nat_eq first l ≡ b → (b || has (numbers_from (first + 1) n) l) ≡ true) [
      | true ↦ λ e. refl
      | false ↦ λ e. has-numbers n (first + 1) l (grind arith) (omega arith)
    ] refl

pub has-bound : (n first l : ℕ) → has (numbers_from first n) l ≡ true → l < first + n
unfolding numbers_from
has-bound zero first l h = cc
has-bound (suc n) first l h =
    elim (nat_eq first l) as (λ b. nat_eq first l ≡ b → (b || has (numbers_from (first + 1) n) l) ≡ true →
    l < first + suc n) [
      | true ↦ λ e f. grind arith
      | false ↦ λ e f. let above : l < first + 1 + n = has-bound n (first + 1) l f in omega arith
    ] refl h

-- of a run of numbers just the first n pass
filter-front : (p : ℕ → Bool) (first n count : ℕ) → ((k : ℕ) → first ≤ k → k < first + n → p k ≡ true) →
    ((k : ℕ) → first + n ≤ k → p k ≡ false) → n ≤ count → filter p (numbers_from first count) ≡ numbers_from first n
unfolding numbers_from
filter-front p first zero zero pass fail within = refl
filter-front p first zero (suc count) pass fail within =
    rw (fail first (omega arith)) (filter-front p (first + 1) zero count (λ k a b. absurd (omega arith))
    (λ k a. fail k (omega arith)) (omega arith))
filter-front p first (suc n) zero pass fail within = absurd (omega arith)
filter-front p first (suc n) (suc count) pass fail within =
    rw (pass first (omega arith) (omega arith))
    (ap (λ xs. first ∷ xs) (filter-front p (first + 1) n count (λ k a b. pass k (omega arith) (omega arith))
    (λ k a. fail k (omega arith)) (omega arith)))

-- the first number that passes stands at the front
first-passes : (p : ℕ → Bool) (first count n : ℕ) → ((k : ℕ) → first ≤ k → k < n → p k ≡ false) → p n ≡ true →
    first ≤ n → n < first + count → slice_get (filter p (numbers_from first count)) 0 ≡ Some n
unfolding numbers_from
first-passes p first zero n before here low high = absurd (omega arith)
first-passes p first (suc count) n before here low high =
    elim (nat_eq first n) as (λ b. nat_eq first n ≡ b →
    slice_get (cond (p first) (first ∷ filter p (numbers_from (first + 1) count))
    (filter p (numbers_from (first + 1) count))) 0 ≡ Some n) [
      | true ↦ λ e. let same : first ≡ n = grind arith in rw (same, here) refl
      | false ↦ λ e. let apart : first ≢ n = grind arith in
          rw (before first (omega arith) (omega arith))
          (first-passes p (first + 1) count n (λ k a b. before k (omega arith) b) here (omega arith) (omega arith))
    ] refl

nothing-passes : (p : ℕ → Bool) (n first : ℕ) → ((k : ℕ) → first ≤ k → k < first + n → p k ≡ false) →
    filter p (numbers_from first n) ≡ []
unfolding numbers_from
nothing-passes p zero first fail = refl
nothing-passes p (suc n) first fail = rw (fail first (omega arith) (omega arith))
    (nothing-passes p n (first + 1) (λ k a b. fail k (omega arith) (omega arith)))

-- Masks

pub members-zero : members 0 ≡ []
unfolding members
members-zero = filter-none (is_label_marked 0) (up_to MOST_LABELS) (λ k. rw (bit_at-zero k) refl)
  where
    filter-none : (p : ℕ → Bool) (xs : List ℕ) → ((k : ℕ) → p k ≡ false) → filter p xs ≡ []
    filter-none p [] fail = refl
    filter-none p (x ∷ xs) fail = rw (fail x) (filter-none p xs fail)

pub has-members : (mask l : ℕ) → 1 ≤ l → l ≤ MOST_LABELS → has (members mask) l ≡ is_label_marked mask l
unfolding members
has-members mask l low high = has-filter (is_label_marked mask) (up_to MOST_LABELS) l ∙
    ap (λ b. b && is_label_marked mask l) (has-numbers MOST_LABELS 1 l low (omega arith))

pub has-low : (n first l : ℕ) → has (numbers_from first n) l ≡ true → first ≤ l
unfolding numbers_from
has-low zero first l h = cc
has-low (suc n) first l h =
    elim (nat_eq first l) as (λ b. nat_eq first l ≡ b → (b || has (numbers_from (first + 1) n) l) ≡ true → first ≤ l) [
      | true ↦ λ e f. grind arith
      | false ↦ λ e f. let above : first + 1 ≤ l = has-low n (first + 1) l f in omega arith
    ] refl h

-- a mask's labels are those labels of 1 to 80 that are among them
pub members-rise : (mask : ℕ) → members mask ≡ filter (has (members mask)) (up_to MOST_LABELS)
unfolding members
members-rise mask =
    filter-agree (is_label_marked mask) (has (members mask)) (up_to MOST_LABELS)
    (λ l h. sym (has-members mask l (has-low MOST_LABELS 1 l h)
    (let b : l < 1 + MOST_LABELS = has-bound MOST_LABELS 1 l h in omega arith)))

marked-and : (a b l : ℕ) → is_label_marked (bit_and a b) l ≡ (is_label_marked a l && is_label_marked b l)
marked-and a b l = rw (bit_at_and a b l) (bits (bit_at a l) (bit_at b l) (bit_at-lt a l) (bit_at-lt b l))
  where
    bits : (x y : ℕ) → x < 2 → y < 2 → nat_eq (min x y) 1 ≡ (nat_eq x 1 && nat_eq y 1)
    bits zero y fx fy = grind arith
    bits (suc zero) zero fx fy = refl
    bits (suc zero) (suc zero) fx fy = refl
    bits (suc zero) (suc (suc y)) fx fy = absurd (omega arith)
    bits (suc (suc x)) y fx fy = absurd (omega arith)

pub members-and : (a b : ℕ) → members (bit_and a b) ≡ meet (members a) (members b)
unfolding members
members-and a b =
    filter-agree (is_label_marked (bit_and a b)) (λ l. is_label_marked a l && has (members b) l) (up_to MOST_LABELS)
    (λ l h. marked-and a b l ∙ ap (λ t. is_label_marked a l && t)
    (sym (has-filter (is_label_marked b) (up_to MOST_LABELS) l ∙ rw h refl)))
    ∙ sym (filter-filter (is_label_marked a) (has (members b)) (up_to MOST_LABELS))

marked-without : (mask l x : ℕ) → l ≤ MOST_LABELS → x ≤ MOST_LABELS →
    is_label_marked (bit_and mask (2 ^ 128 - 1 - 1 * 2 ^ l % 2 ^ 128)) x ≡ (is_label_marked mask x && not (nat_eq x l))
marked-without mask l x low small =
    elim (nat_eq x l) as (λ b. nat_eq x l ≡ b → is_label_marked (bit_and mask (2 ^ 128 - 1 - 1 * 2 ^ l % 2 ^ 128)) x ≡
    (is_label_marked mask x && not b)) [
      | true ↦ λ e. let same : x ≡ l = grind arith in rw (same, bit_at_clear_same w128 mask l (omega arith))
          (sym (and-false (is_label_marked mask l)))
      | false ↦ λ e. let other : x ≢ l = grind arith in rw
          (bit_at_clear_other w128 mask l (omega arith) x (omega arith) other)
          (sym (and-true (is_label_marked mask x)))
    ] refl

pub members-without : (mask l : ℕ) → l ≤ MOST_LABELS →
    members (bit_and mask (2 ^ 128 - 1 - 1 * 2 ^ l % 2 ^ 128)) ≡ without (members mask) l
unfolding members
members-without mask l low =
    filter-agree _ (λ x. is_label_marked mask x && not (nat_eq x l)) (up_to MOST_LABELS)
    (λ x h. marked-without mask l x low (let b : x < 1 + MOST_LABELS = has-bound MOST_LABELS 1 x h in omega arith))
    ∙ sym (filter-filter (is_label_marked mask) (λ x. not (nat_eq x l)) (up_to MOST_LABELS))

marked-with : (mask l x : ℕ) → l ≤ MOST_LABELS → is_label_marked (bit_or mask (1 * 2 ^ l % 2 ^ 128)) x ≡
    (nat_eq x l || is_label_marked mask x)
marked-with mask l x low =
    elim (nat_eq x l) as (λ b. nat_eq x l ≡ b → is_label_marked (bit_or mask (1 * 2 ^ l % 2 ^ 128)) x ≡
    (b || is_label_marked mask x)) [
      | true ↦ λ e. let same : x ≡ l = grind arith in rw (same, bit_at_set_same w128 mask l (omega arith)) refl
      | false ↦ λ e. let other : x ≢ l = grind arith in rw (bit_at_set_other w128 mask l (omega arith) x other) refl
    ] refl

pub members-with : (mask l : ℕ) → l ≤ MOST_LABELS →
    members (bit_or mask (1 * 2 ^ l % 2 ^ 128)) ≡ with_label (members mask) l
unfolding members
members-with mask l low =
    filter-agree _ (λ x. nat_eq x l || has (members mask) x) (up_to MOST_LABELS)
    (λ x h. marked-with mask l x low ∙ ap (λ t. nat_eq x l || t)
    (sym (has-filter (is_label_marked mask) (up_to MOST_LABELS) x ∙ rw h refl)))

doubled : (n : ℕ) → n ≤ MOST_LABELS → 2 * 2 ^ n % 2 ^ 128 ≡ 2 ^ (n + 1)
doubled n small =
    let e : 2 * 2 ^ n ≡ 2 ^ (n + 1) = rw (add-one, pow-suc) (omega arith) in
    let below : 2 ^ (n + 1) < 2 ^ 128 = pow-lt {i = n + 1} {j = 128} (omega arith) in
    rw e (mod-eq_of_lt below)

pub two_or_more : (n : ℕ) → n ≤ MOST_LABELS → 2 ≤ 2 * 2 ^ n % 2 ^ 128
two_or_more n small = rw (doubled n small, add-one, pow-suc) (let p : 0 < 2 ^ n = pow_pos n in omega arith)

pub members-up_to : (n : ℕ) → n ≤ MOST_LABELS → members (2 * 2 ^ n % 2 ^ 128 - 2) ≡ up_to n
unfolding members
members-up_to n small =
    rw (doubled n small)
    (filter-front (is_label_marked (2 ^ (n + 1) - 2)) 1 n MOST_LABELS
    (λ k a b. rw (bit_at_mask_inside 1 (n + 1) k a (omega arith)) refl)
    (λ k a. rw (bit_at_mask_above 1 (n + 1) k (omega arith)) refl) small)

pub least-here : (mask n : ℕ) → ((k : ℕ) → 1 ≤ k → k < n → is_label_marked mask k ≡ false) →
    is_label_marked mask n ≡ true →
    1 ≤ n → n ≤ MOST_LABELS → least (members mask) ≡ Some n
unfolding members
least-here mask n before here low high =
    first-passes (is_label_marked mask) 1 MOST_LABELS n before here low (omega arith)

pub least-nowhere : (mask : ℕ) → ((k : ℕ) → 1 ≤ k → k < MOST_LABELS + 1 → is_label_marked mask k ≡ false) → least (members mask) ≡ None
unfolding members
least-nowhere mask fail = rw (nothing-passes (is_label_marked mask) MOST_LABELS 1 (λ k a b. fail k a (omega arith))) refl
