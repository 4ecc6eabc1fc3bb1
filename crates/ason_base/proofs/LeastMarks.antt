-- The least label of a mask by the zeros below its lowest mark.
use Rattle.std.proofs.{Common.{◌≡◌, ◌≤◌, ◌<◌, ◌+◌, ◌/◌, ◌^◌, ℕ, zero, suc, true, false, nat_eq, ap, ◌∙◌, arith}, lemmas.Nat.Bits.{bit_at-suc, bit_at-trailing_zeros, bit_at-zero}}
use Rattle.std.specs.{Prelude.{Option, Some, None, SomeIff}, Int.{bit_at, trailing_zeros, w128}}
use Rattle.ason_base.specs.{declared.limits.TheConstants.MOST_LABELS, Labels.{is_label_marked, least, members}}
use Rattle.ason_base.proofs.MaskMembers.{least-here, least-nowhere}

-- a number of 1 to 80 is a label
pub is_a_label : (r : Option ℕ) (n : ℕ) → 1 ≤ n → n ≤ MOST_LABELS → SomeIff r ((1 ≤ n) × (n ≤ MOST_LABELS)) n →
    r ≡ Some n
is_a_label None n low high h = absurd (h (low, high))
is_a_label (Some x) n low high h = ap Some h.1

unmarked : (mask n : ℕ) → ((i : ℕ) → i < n → bit_at (mask / 2) i ≡ 0) → (k : ℕ) → 1 ≤ k → k < n + 1 →
    is_label_marked mask k ≡ false
unmarked mask n none zero low high = absurd (omega arith)
unmarked mask n none (suc k) low high = ap (λ (d : ℕ). nat_eq d 1) (bit_at-suc mask k ∙ none k (omega arith))

marked : (mask k : ℕ) → bit_at (mask / 2) k ≡ 1 → is_label_marked mask (k + 1) ≡ true
marked mask k one =
    let next : k + 1 ≡ suc k = omega arith in
    ap (is_label_marked mask) next ∙ ap (λ (d : ℕ). nat_eq d 1) (bit_at-suc mask k ∙ one)

-- no label is marked
pub least-of_none : (mask : ℕ) → mask / 2 ≡ 0 → least (members mask) ≡ None
least-of_none mask none =
    least-nowhere mask (unmarked mask MOST_LABELS (λ i h. ap (λ (m : ℕ). bit_at m i) none ∙ bit_at-zero i))

-- the lowest mark is that of a label, or above all labels
pub least-marked : (mask : ℕ) → 0 < mask / 2 → mask / 2 < 2 ^ 128 → trailing_zeros w128 (mask / 2) + 1 ≤ MOST_LABELS →
    least (members mask) ≡ Some (trailing_zeros w128 (mask / 2) + 1)
least-marked mask some fits high =
    let lowest = bit_at-trailing_zeros w128 (mask / 2) some fits in
    least-here mask (trailing_zeros w128 (mask / 2) + 1)
    (unmarked mask (trailing_zeros w128 (mask / 2)) lowest.2)
    (marked mask (trailing_zeros w128 (mask / 2)) lowest.1) (omega arith) high

pub least-above : (mask : ℕ) → 0 < mask / 2 → mask / 2 < 2 ^ 128 → MOST_LABELS < trailing_zeros w128 (mask / 2) + 1 →
    least (members mask) ≡ None
least-above mask some fits above =
    let lowest = bit_at-trailing_zeros w128 (mask / 2) some fits in
    least-nowhere mask (λ k low high.
    unmarked mask (trailing_zeros w128 (mask / 2)) lowest.2 k low (omega arith))
