-- Which frames were handed to a ring, and which were dropped.
use Rattle.std.proofs.{Common.{◌≡◌, ◌<◌, ◌≤◌, ◌+◌, ◌-◌, ℕ, zero, suc, Bool, true, false, cond, not, nat_le, List, [], ◌∷◌, ◌++◌, drop, filter, refl, sym, ap, ◌∙◌, arith, append-nil}, lemmas.List.Elements.filter-append}
use Rattle.std.specs.{Prelude.{◌||◌, min}, List.{AllByRecursion, range_with_len}}
use Rattle.hop_reliable.proofs.Members.{each-more}
use Rattle.round_rules.specs.Rings.{is_number_in, without_numbers}
use Rattle.round_rules.proofs.{Standing.each_in, Numbers.{in-append, in_range}, FleetNumbers.{all-range, drop-range, in-without, in_filter, not-above, not-below, range-split}}

-- Handing over

filter_same : (p q : ℕ → Bool) (xs : List ℕ) → AllByRecursion (λ (k : ℕ). p k ≡ q k) xs → filter p xs ≡ filter q xs
filter_same p q [] all = refl
filter_same p q (x ∷ xs) all =
    ap (λ b. cond b (x ∷ filter p xs) (filter p xs)) all.0 ∙ ap (λ ys. cond (q x) (x ∷ ys) ys)
    (filter_same p q xs all.1)

filter_all : (p : ℕ → Bool) (xs : List ℕ) → AllByRecursion (λ (k : ℕ). p k ≡ true) xs → filter p xs ≡ xs
filter_all p [] all = refl
filter_all p (x ∷ xs) all =
    ap (λ b. cond b (x ∷ filter p xs) (filter p xs)) all.0 ∙ ap (λ ys. x ∷ ys) (filter_all p xs all.1)

filter_none : (p : ℕ → Bool) (xs : List ℕ) → AllByRecursion (λ (k : ℕ). p k ≡ false) xs → filter p xs ≡ []
filter_none p [] all = refl
filter_none p (x ∷ xs) all = ap (λ b. cond b (x ∷ filter p xs) (filter p xs)) all.0 ∙ filter_none p xs all.1

-- c frames were sent and these of them dropped; m more were sent, the first of which are handed over while there is
-- room
pub handed-after : (dropped : List ℕ) (c m room : ℕ) → AllByRecursion (λ (k : ℕ). k ≤ c) dropped →
    without_numbers (dropped ++ drop room (range_with_len (c + 1) m)) (range_with_len 1 (c + m)) ≡
    without_numbers dropped (range_with_len 1 c) ++ range_with_len (c + 1) (min m room)
handed-after dropped c m room old =
    ap (filter stays) (range-split 1 c m) ∙ filter-append stays (range_with_len 1 c) (range_with_len (1 + c) m)
    ∙ ap (λ xs. xs ++ filter stays (range_with_len (1 + c) m)) earlier
    ∙ ap (λ xs. without_numbers dropped (range_with_len 1 c) ++ xs) later
  where
    new : List ℕ
    new = drop room (range_with_len (c + 1) m)

    stays : ℕ → Bool
    stays k = not (is_number_in (dropped ++ new) k)

    new_is : new ≡ range_with_len ((c + 1) + room) (m - room)
    new_is = drop-range room (c + 1) m

    past : (k : ℕ) → c < k → is_number_in dropped k ≡ false
    past k lt =
        not-below k dropped (each-more (λ (x : ℕ). x ≤ c) (λ (x : ℕ). x < k) (λ x le. omega (arith, le, lt)) dropped
        old)

    not_new : (k : ℕ) → k < (c + 1) + room → is_number_in new k ≡ false
    not_new k lt =
        ap (λ xs. is_number_in xs k) new_is
        ∙ not-above k (range_with_len ((c + 1) + room) (m - room)) (all-range (λ x. k < x) ((c + 1) + room) (m - room)
        (λ x low high. omega (arith, low, lt)))

    both : (k : ℕ) (a b : Bool) → is_number_in dropped k ≡ a → is_number_in new k ≡ b → stays k ≡ not (a || b)
    both k a b e f = ap not (in-append dropped new k ∙ ap (λ x. x || is_number_in new k) e ∙ ap (λ x. a || x) f)

    or_false : (a : Bool) → (a || false) ≡ a
    or_false true = refl
    or_false false = refl

    earlier : filter stays (range_with_len 1 c) ≡ without_numbers dropped (range_with_len 1 c)
    earlier =
        filter_same stays (λ k. not (is_number_in dropped k)) (range_with_len 1 c)
        (all-range (λ k. stays k ≡ not (is_number_in dropped k)) 1 c (λ k low high.
        both k (is_number_in dropped k) false refl (not_new k (omega (arith, high)))
        ∙ ap not (or_false (is_number_in dropped k))))

    first : ℕ
    first = min m room

    rest : ℕ
    rest = m - first

    few : first ≤ room
    few = omega arith

    parts : m ≡ first + rest
    parts = omega arith

    kept : filter stays (range_with_len (1 + c) first) ≡ range_with_len (c + 1) first
    kept =
        filter_all stays (range_with_len (1 + c) first) (all-range (λ k. stays k ≡ true) (1 + c) first (λ k low high.
        both k false false (past k (omega (arith, low))) (not_new k (omega (arith, high, few)))))
        ∙ (let here : 1 + c ≡ c + 1 = omega arith in ap (λ s. range_with_len s first) here)

    gone_is : range_with_len ((1 + c) + first) rest ≡ new
    gone_is = go (nat_le m room) refl
      where
        within : nat_le m room ≡ true → m ≤ room
        within h = grind (arith, h)

        beyond : nat_le m room ≡ false → room < m
        beyond h = grind (arith, h)

        go : (b : Bool) → nat_le m room ≡ b → range_with_len ((1 + c) + first) rest ≡ new
        go true h =
            let all : m ≤ room = within h in
            let none : rest ≡ 0 = omega (arith, all) in
            let nothing : m - room ≡ 0 = omega (arith, all) in
            ap (range_with_len ((1 + c) + first)) none
            ∙ sym (new_is ∙ ap (range_with_len ((c + 1) + room)) nothing)
        go false h =
            let more : room < m = beyond h in
            let at : (1 + c) + first ≡ (c + 1) + room = omega (arith, more) in
            let long : rest ≡ m - room = omega (arith, more) in
            ap (λ s. range_with_len s rest) at ∙ ap (range_with_len ((c + 1) + room)) long ∙ sym new_is

    gone : filter stays (range_with_len ((1 + c) + first) rest) ≡ []
    gone =
        ap (filter stays) gone_is ∙ filter_none stays new
        (each-more (λ (k : ℕ). is_number_in new k ≡ true) (λ (k : ℕ). stays k ≡ false) drops new (each_in new))
      where
        drops : (k : ℕ) → is_number_in new k ≡ true → stays k ≡ false
        drops k h = both k (is_number_in dropped k) true refl h ∙ all (is_number_in dropped k)
          where
            all : (a : Bool) → not (a || true) ≡ false
            all true = refl
            all false = refl

    later : filter stays (range_with_len (1 + c) m) ≡ range_with_len (c + 1) first
    later =
        ap (λ k. filter stays (range_with_len (1 + c) k)) parts
        ∙ ap (filter stays) (range-split (1 + c) first rest)
        ∙ filter-append stays (range_with_len (1 + c) first) (range_with_len ((1 + c) + first) rest)
        ∙ ap (λ xs. xs ++ filter stays (range_with_len ((1 + c) + first) rest)) kept
        ∙ ap (λ xs. range_with_len (c + 1) first ++ xs) gone ∙ append-nil (range_with_len (c + 1) first)

-- what was handed over was sent and not dropped
pub handed-in : (dropped : List ℕ) (c k : ℕ) → is_number_in (without_numbers dropped (range_with_len 1 c)) k ≡ true →
    (k ≤ c) × (is_number_in dropped k ≡ false)
handed-in dropped c k h = (inside (nat_le k c) refl, negated (is_number_in dropped k) found.0)
  where
    found : (not (is_number_in dropped k) ≡ true) × (is_number_in (range_with_len 1 c) k ≡ true)
    found = in_filter (λ n. not (is_number_in dropped n)) (range_with_len 1 c) k h

    negated : (b : Bool) → not b ≡ true → b ≡ false
    negated true e = absurd (cc (e))
    negated false e = refl

    within : nat_le k c ≡ true → k ≤ c
    within e = grind (arith, e)

    beyond : nat_le k c ≡ false → c < k
    beyond e = grind (arith, e)

    inside : (b : Bool) → nat_le k c ≡ b → k ≤ c
    inside true e = within e
    inside false e =
        let more : c < k = beyond e in
        let none = not-below k (range_with_len 1 c) (all-range (λ x. x < k) 1 c
        (λ x low high. omega (arith, high, more))) in
        absurd (cc (none, found.1))

from_one : (c k : ℕ) → is_number_in (range_with_len 1 c) k ≡ true → 1 ≤ k
from_one c zero h =
    absurd (cc (h, not-above 0 (range_with_len 1 c) (all-range (λ x. 0 < x) 1 c (λ x low high. omega (arith, low)))))
from_one c (suc k) h = omega arith

-- what was handed over still is when more was sent, and of that some dropped
pub handed-later : (dropped more : List ℕ) (c d k : ℕ) → c ≤ d → AllByRecursion (λ (x : ℕ). c < x) more →
    is_number_in (without_numbers dropped (range_with_len 1 c)) k ≡ true →
    is_number_in (without_numbers (dropped ++ more) (range_with_len 1 d)) k ≡
    true
handed-later dropped more c d k le above h =
    in-without (dropped ++ more) (range_with_len 1 d) k out (in_range 1 d k low (omega (arith, le, high)))
  where
    found : (not (is_number_in dropped k) ≡ true) × (is_number_in (range_with_len 1 c) k ≡ true)
    found = in_filter (λ n. not (is_number_in dropped n)) (range_with_len 1 c) k h

    bounds : (k ≤ c) × (is_number_in dropped k ≡ false)
    bounds = handed-in dropped c k h

    high : k ≤ c
    high = bounds.0

    low : 1 ≤ k
    low = from_one c k found.1

    out : is_number_in (dropped ++ more) k ≡ false
    out =
        in-append dropped more k ∙ ap (λ b. b || is_number_in more k) bounds.1
        ∙ not-above k more (each-more (λ (x : ℕ). c < x) (λ (x : ℕ). k < x) (λ x lt. omega (arith, lt, high)) more
        above)
