-- How many labels a mask stands for.
use Rattle.std.proofs.{Common.{◌≡◌, ◌≤◌, ◌<◌, ◌+◌, ◌-◌, ◌*◌, ◌/◌, ◌%◌, ◌^◌, ℕ, zero, suc, Bool, cond, nat_eq, List, ◌∷◌, length, sym, ap, ◌∙◌, arith, bit_and, min}, lemmas.Nat.{and_le_r, ones_le_self}, lemmas.Nat.Bits.{bit_at_and, bit_at-lt, bit_at_lowest, bit_at_ones, bit_at-suc}, Math.Nat.pow-suc}
use Rattle.std.specs.{Prelude.filter, Int.bit_at, Int.RustNames.count_ones}
use Rattle.ason_base.specs.{declared.limits.TheConstants.MOST_LABELS, Labels.{numbers_from, up_to, is_label_marked, members}}
use lib.Count.{ones_step}
use Rattle.ason_base.proofs.MaskMembers.{filter-agree, has-bound, has-low}

-- the mask's bit for a number, where the lowest bit is that of the first number
abbrev marks : ℕ → ℕ → ℕ → Bool
marks mask first l = nat_eq (bit_at mask (l - first)) 1

one_more : (d first : ℕ) (xs : List ℕ) → d < 2 → d + length xs ≡ length (cond (nat_eq d 1) (first ∷ xs) xs)
one_more zero first xs h = omega arith
one_more (suc zero) first xs h = omega arith
one_more (suc (suc d)) first xs h = absurd (omega arith)

marks-half : (mask first l : ℕ) → first + 1 ≤ l → marks mask first l ≡ marks (mask / 2) (first + 1) l
marks-half mask first l h =
    let next : l - first ≡ suc (l - (first + 1)) = omega arith in
    ap (λ (i : ℕ). nat_eq (bit_at mask i) 1) next ∙ ap (λ (d : ℕ). nat_eq d 1) (bit_at-suc mask (l - (first + 1)))

-- as many bits are set as there are numbers whose bit is set
ones-marked : (k mask first : ℕ) → mask < 2 ^ k →
    count_ones mask ≡ length (filter (marks mask first) (numbers_from first k))
unfolding numbers_from
ones-marked zero mask first few = let none : mask < 1 = few in omega (arith, none, ones_le_self mask)
ones-marked (suc k) mask first few =
    let half : mask / 2 < 2 ^ k = (let double : 2 ^ suc k ≡ 2 ^ k * 2 = pow-suc 2 k in omega (arith, few, double)) in
    let rest : List ℕ = numbers_from (first + 1) k in
    let others : filter (marks mask first) rest ≡ filter (marks (mask / 2) (first + 1)) rest =
    filter-agree (marks mask first) (marks (mask / 2) (first + 1)) rest
    (λ l h. marks-half mask first l (has-low k (first + 1) l h)) in
    let lowest : bit_at mask (first - first) ≡ mask % 2 =
    ap (bit_at mask) (let same : first - first ≡ 0 = omega arith in same) ∙ bit_at_lowest mask in
    ones_step mask
    ∙ ap (λ (n : ℕ). mask % 2 + n) (ones-marked k (mask / 2) (first + 1) half ∙ ap length (sym others))
    ∙ one_more (mask % 2) first (filter (marks mask first) rest) (omega arith)
    ∙ ap (λ (d : ℕ). length (cond (nat_eq d 1) (first ∷ filter (marks mask first) rest)
    (filter (marks mask first) rest))) (sym lowest)

-- the bits of the labels 1 to 80
marks-label : (mask l : ℕ) → 1 ≤ l → l ≤ MOST_LABELS →
    marks (bit_and (mask / 2) (2 ^ MOST_LABELS - 1)) 1 l ≡ is_label_marked mask l
marks-label mask l low high =
    let place : l ≡ suc (l - 1) = omega arith in
    let inside : bit_at (2 ^ MOST_LABELS - 1) (l - 1) ≡ 1 = bit_at_ones MOST_LABELS (l - 1) (omega arith) in
    let bit : bit_at (bit_and (mask / 2) (2 ^ MOST_LABELS - 1)) (l - 1) ≡ bit_at (mask / 2) (l - 1) =
    bit_at_and (mask / 2) (2 ^ MOST_LABELS - 1) (l - 1) ∙ ap (min (bit_at (mask / 2) (l - 1))) inside
    ∙ least_one (bit_at (mask / 2) (l - 1)) (bit_at-lt (mask / 2) (l - 1)) in
    ap (λ (d : ℕ). nat_eq d 1) (bit ∙ sym (bit_at-suc mask (l - 1)) ∙ ap (bit_at mask) (sym place))
  where
    least_one : (d : ℕ) → d < 2 → min d 1 ≡ d
    least_one d h = omega arith

pub labels-few : (mask : ℕ) → bit_and (mask / 2) (2 ^ MOST_LABELS - 1) < 2 ^ MOST_LABELS
labels-few mask = omega (arith, and_le_r (mask / 2) (2 ^ MOST_LABELS - 1))

pub length-members : (mask : ℕ) → count_ones (bit_and (mask / 2) (2 ^ MOST_LABELS - 1)) ≡ length (members mask)
unfolding members
length-members mask =
    ones-marked MOST_LABELS (bit_and (mask / 2) (2 ^ MOST_LABELS - 1)) 1 (labels-few mask)
    ∙ ap length (filter-agree (marks (bit_and (mask / 2) (2 ^ MOST_LABELS - 1)) 1) (is_label_marked mask)
    (up_to MOST_LABELS) (λ l h.
    marks-label mask l (has-low MOST_LABELS 1 l h)
    (let b : l < 1 + MOST_LABELS = has-bound MOST_LABELS 1 l h in omega arith)))
