-- A mask of two halves of 64 bits, and one more mark in it.
use Rattle.std.proofs.{Common.{◌≡◌, ◌≢◌, ◌≤◌, ◌<◌, ◌+◌, ◌-◌, ◌*◌, ◌%◌, ◌^◌, ◌||◌, ℕ, Bool, true, false, nat_eq, nat_lt, refl, sym, ap, ◌∙◌, arith, bit_or}, lemmas.Nat.or_lt, lemmas.Nat.Bits.{bit_at_cat_low, bit_at_cat_high, bit_at_set_same, bit_at_set_other}}
use Rattle.std.specs.Int.{w64}
use Rattle.ason_base.specs.{declared.limits.TheConstants.MOST_LABELS, Labels.{has, is_label_marked, members, up_to, with_label}}
use Rattle.ason_base.proofs.MaskMembers.{filter-agree, has-bound, has-low, has-members}

abbrev halves : ℕ → ℕ → ℕ
halves high low = high * 2 ^ 64 + low

in_low : (high low l : ℕ) → l < 64 → is_label_marked (halves high low) l ≡ is_label_marked low l
in_low high low l h = ap (λ (d : ℕ). nat_eq d 1) (bit_at_cat_low high 64 low l h)

in_high : (high low l : ℕ) → low < 2 ^ 64 → 64 ≤ l → is_label_marked (halves high low) l ≡ is_label_marked high (l - 64)
in_high high low l fits h = ap (λ (d : ℕ). nat_eq d 1) (bit_at_cat_high high 64 low l fits h)

in_half : (half k i : ℕ) → k < 64 → is_label_marked (bit_or half (1 * 2 ^ k % 2 ^ 64)) i ≡ (nat_eq i k || is_label_marked half i)
in_half half k i within =
    elim (nat_eq i k) as (λ b. nat_eq i k ≡ b → is_label_marked (bit_or half (1 * 2 ^ k % 2 ^ 64)) i ≡
    (b || is_label_marked half i)) [
      | true ↦ λ e. let same : i ≡ k = grind arith in rw (same, bit_at_set_same w64 half k within) refl
      | false ↦ λ e. let other : i ≢ k = grind arith in rw (bit_at_set_other w64 half k within i other) refl
    ] refl

pub half_fits : (half k : ℕ) → half < 2 ^ 64 → bit_or half (1 * 2 ^ k % 2 ^ 64) < 2 ^ 64
half_fits half k fits = or_lt 64 half _ fits (omega arith)

-- a mask that has one more number marked
one_marked : (mask more n : ℕ) → ((l : ℕ) → l ≤ MOST_LABELS → is_label_marked more l ≡ (nat_eq l n || is_label_marked mask l)) →
    members more ≡ with_label (members mask) n
unfolding members
one_marked mask more n marks =
    filter-agree (is_label_marked more) (λ l. nat_eq l n || has (members mask) l) (up_to MOST_LABELS) (λ l h.
    let low = has-low MOST_LABELS 1 l h in
    let high = has-bound MOST_LABELS 1 l h in
    marks l (omega arith) ∙ ap (λ (b : Bool). nat_eq l n || b) (sym (has-members mask l low (omega arith))))

-- a number below 64 is marked in the low half
pub low_marked : (high low n : ℕ) → low < 2 ^ 64 → n < 64 →
    members (halves high (bit_or low (1 * 2 ^ n % 2 ^ 64))) ≡ with_label (members (halves high low)) n
low_marked high low n fits within = one_marked (halves high low) (halves high more) n (λ l top.
    elim (nat_lt l 64) as (λ b. nat_lt l 64 ≡ b → is_label_marked (halves high more) l ≡
    (nat_eq l n || is_label_marked (halves high low) l)) [
      | true ↦ λ e. let h : l < 64 = grind arith in
          in_low high more l h ∙ in_half low n l within
          ∙ ap (λ (b : Bool). nat_eq l n || b) (sym (in_low high low l h))
      | false ↦ λ e. let h : 64 ≤ l = grind arith in
          let other : nat_eq l n ≡ false = grind arith in
          in_high high more l (half_fits low n fits) h ∙ sym (in_high high low l fits h)
          ∙ sym (ap (λ (b : Bool). b || is_label_marked (halves high low) l) other)
    ] refl)
  where
    more : ℕ
    more = bit_or low (1 * 2 ^ n % 2 ^ 64)

-- one of 64 to 127 in the high half
pub high_marked : (high low n : ℕ) → low < 2 ^ 64 → 64 ≤ n → n < 128 →
    members (halves (bit_or high (1 * 2 ^ (n - 64) % 2 ^ 64)) low) ≡ with_label (members (halves high low)) n
high_marked high low n fits from within = one_marked (halves high low) (halves more low) n (λ l top.
    elim (nat_lt l 64) as (λ b. nat_lt l 64 ≡ b → is_label_marked (halves more low) l ≡
    (nat_eq l n || is_label_marked (halves high low) l)) [
      | true ↦ λ e. let h : l < 64 = grind arith in
          let other : nat_eq l n ≡ false = grind arith in
          in_low more low l h ∙ sym (in_low high low l h)
          ∙ sym (ap (λ (b : Bool). b || is_label_marked (halves high low) l) other)
      | false ↦ λ e. let h : 64 ≤ l = grind arith in
          let place : nat_eq (l - 64) (n - 64) ≡ nat_eq l n = grind arith in
          in_high more low l fits h ∙ in_half high (n - 64) (l - 64) (omega arith)
          ∙ ap (λ (b : Bool). b || is_label_marked high (l - 64)) place
          ∙ ap (λ (b : Bool). nat_eq l n || b) (sym (in_high high low l fits h))
    ] refl)
  where
    more : ℕ
    more = bit_or high (1 * 2 ^ (n - 64) % 2 ^ 64)

-- and one above all labels nowhere
pub none_marked : (mask n : ℕ) → 128 ≤ n → members mask ≡ with_label (members mask) n
none_marked mask n above = one_marked mask mask n (λ l top.
    let other : nat_eq l n ≡ false = grind arith in
    sym (ap (λ (b : Bool). b || is_label_marked mask l) other))
