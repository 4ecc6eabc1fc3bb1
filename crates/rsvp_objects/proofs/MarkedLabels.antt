-- The numbers marked in 64 bits: the lowest of them, and the two halves of a set's bits.
use Rattle.std.proofs.{Common.{◌≡◌, ◌≢◌, ◌≤◌, ◌<◌, ◌+◌, ◌-◌, ◌*◌, ◌/◌, ◌%◌, ◌^◌, ℕ, zero, suc, Bool, true, false, List, [], ◌∷◌, ◌++◌, cond, filter, length, length-append, min, nat_eq, bit_and, refl, sym, ap, ◌∙◌, arith}, lemmas.List.append-nil, lemmas.List.Elements.filter-append, lemmas.Nat.shr-shr, lemmas.Nat.Bits.{bit_at_and, bit_at_clear_other, bit_at_clear_same, bit_at-lt, bit_at_mask_below, bit_at_mask_inside, bit_at_ones, bit_at_ones_above, bit_at-trailing_zeros, bit_at-zero}}
use Rattle.std.specs.Int.{bit_at, trailing_zeros, w64}
use Rattle.ason_base.specs.Labels.{has, is_label_marked, members, numbers_from}
use Rattle.ason_base.proofs.MaskMembers.{filter-agree, has-bound, has-low, members-rise}
use Rattle.rsvp_objects.specs.LabelSets.{among, marked}
use Rattle.rsvp_objects.proofs.Labels.{none_among}

-- ---- runs of numbers

numbers_join : (a b first : ℕ) → numbers_from first (a + b) ≡ numbers_from first a ++ numbers_from (first + a) b
unfolding numbers_from
numbers_join zero b first =
    ap (λ (n : ℕ). numbers_from first n) (let e : 0 + b ≡ b = omega arith in e)
    ∙ ap (λ (k : ℕ). numbers_from k b) (let e : first ≡ first + 0 = omega arith in e)
numbers_join (suc a) b first =
    ap (λ (n : ℕ). numbers_from first n) (let e : suc a + b ≡ suc (a + b) = omega arith in e)
    ∙ ap (λ (l : List ℕ). first ∷ l) (numbers_join a b (first + 1)
    ∙ ap (λ (k : ℕ). numbers_from (first + 1) a ++ numbers_from k b)
    (let e : first + 1 + a ≡ first + suc a = omega arith in e))

pass_alike : (p q : ℕ → Bool) (first n : ℕ) → ((l : ℕ) → first ≤ l → l < first + n → p l ≡ q l) →
    filter p (numbers_from first n) ≡ filter q (numbers_from first n)
pass_alike p q first n same =
    filter-agree p q (numbers_from first n) (λ l h. same l (has-low n first l h) (has-bound n first l h))

none_pass : (p : ℕ → Bool) (first n : ℕ) → ((l : ℕ) → first ≤ l → l < first + n → p l ≡ false) →
    filter p (numbers_from first n) ≡ []
none_pass p first n fail = pass_alike p (has []) first n fail ∙ none_among n first

-- the first number that passes one test, before those that pass another, which differs at that number alone
first_of : (p q : ℕ → Bool) (k first n : ℕ) → ((l : ℕ) → first ≤ l → l < n → p l ≡ false) → p n ≡ true → q n ≡ false →
    ((l : ℕ) → first ≤ l → l < first + k → l ≢ n → q l ≡ p l) → first ≤ n → n < first + k →
    filter p (numbers_from first k) ≡ n ∷ filter q (numbers_from first k)
unfolding numbers_from
first_of p q zero first n before here gone same low high = absurd (omega arith)
first_of p q (suc k) first n before here gone same low high =
    elim (nat_eq first n) as (λ b. nat_eq first n ≡ b →
    cond (p first) (first ∷ filter p (numbers_from (first + 1) k)) (filter p (numbers_from (first + 1) k)) ≡
    n ∷ cond (q first) (first ∷ filter q (numbers_from (first + 1) k)) (filter q (numbers_from (first + 1) k))) [
      | true ↦ λ e. let is : first ≡ n = grind arith in
          rw (is, here, gone) (ap (λ (l : List ℕ). n ∷ l) (pass_alike p q (n + 1) k (λ l a b.
          sym (same l (omega arith) (omega arith) (λ (f : l ≡ n). omega arith)))))
      | false ↦ λ e. let other : first ≢ n = grind arith in
          let fails : p first ≡ false = before first (omega arith) (omega arith) in
          rw (same first (omega arith) (omega arith) other, fails)
          (first_of p q k (first + 1) n (λ l a b. before l (omega arith) b) here gone
          (λ l a b f. same l (omega arith) (omega arith) f) (omega arith) (omega arith))
    ] refl

-- ---- 64 bits

-- these bits but the lowest
abbrev pub but_lowest : ℕ → ℕ
but_lowest bits = bit_and bits (2 ^ 64 - 1 - 1 * 2 ^ trailing_zeros w64 bits % 2 ^ 64)

pub lowest_low : (bits : ℕ) → 0 < bits → bits < 2 ^ 64 → trailing_zeros w64 bits < 64
lowest_low bits some fits = (bit_at-trailing_zeros w64 bits some fits).0

-- the lowest bit is that of the first number marked
pub lowest_first : (first bits : ℕ) → 0 < bits → bits < 2 ^ 64 →
    marked first bits ≡ (first + trailing_zeros w64 bits) ∷ marked first (but_lowest bits)
lowest_first first bits some fits =
    first_of (λ l. is_label_marked bits (l - first)) (λ l. is_label_marked (but_lowest bits) (l - first)) 64 first
    (first + n)
    (λ l a b. ap is_one (lowest.2 (l - first) (omega arith)))
    (ap is_one (ap (bit_at bits) place ∙ lowest.1))
    (ap is_one (ap (bit_at (but_lowest bits)) place ∙ bit_at_clear_same w64 bits n lowest.0))
    (λ l a b f. ap is_one (bit_at_clear_other w64 bits n lowest.0 (l - first) (omega arith)
    (λ (e : l - first ≡ n). f (omega arith))))
    (omega arith) (let low = lowest.0 in omega arith)
  where
    n : ℕ
    n = trailing_zeros w64 bits

    lowest : (n < 64) × (bit_at bits n ≡ 1) × ((i : ℕ) → i < n → bit_at bits i ≡ 0)
    lowest = bit_at-trailing_zeros w64 bits some fits

    place : first + n - first ≡ n
    place = omega arith

    is_one : ℕ → Bool
    is_one d = nat_eq d 1

pub nothing_marked : (first bits : ℕ) → bits ≡ 0 → marked first bits ≡ []
nothing_marked first bits none =
    none_pass (λ l. is_label_marked bits (l - first)) first 64
    (λ l a b. ap (λ (m : ℕ). is_label_marked m (l - first)) none ∙ ap (λ (d : ℕ). nat_eq d 1) (bit_at-zero (l - first)))

-- ---- the two halves of a set's bits

kept : (a b l : ℕ) → bit_at b l ≡ 1 → is_label_marked (bit_and a b) l ≡ is_label_marked a l
kept a b l e =
    let same : min (bit_at a l) (bit_at b l) ≡ bit_at a l = omega (arith, bit_at-lt a l) in
    ap (λ (d : ℕ). nat_eq d 1) (bit_at_and a b l ∙ same)

lost : (a b l : ℕ) → bit_at b l ≡ 0 → is_label_marked (bit_and a b) l ≡ false
lost a b l e =
    let none : min (bit_at a l) (bit_at b l) ≡ 0 = omega arith in ap (λ (d : ℕ). nat_eq d 1) (bit_at_and a b l ∙ none)

-- the bits of the labels 1 to 63, and those of the labels 64 to 80
abbrev pub low_half : ℕ → ℕ
low_half all = bit_and all (2 ^ 64 - 2 ^ 1)

abbrev pub high_half : ℕ → ℕ
high_half all = bit_and (all / 2 ^ 64) (2 ^ 17 - 1)

low_labels : (all : ℕ) → marked 0 (low_half all) ≡ filter (is_label_marked all) (numbers_from 1 63)
low_labels all =
    ap (filter p) (numbers_join 1 63 0) ∙ filter-append p (numbers_from 0 1) (numbers_from 1 63)
    ∙ ap (λ (l : List ℕ). l ++ filter p (numbers_from 1 63)) (none_pass p 0 1 (λ l a b.
    lost all (2 ^ 64 - 2 ^ 1) (l - 0) (bit_at_mask_below 1 64 (l - 0) (omega arith))))
    ∙ pass_alike p (is_label_marked all) 1 63 (λ l a b.
    kept all (2 ^ 64 - 2 ^ 1) (l - 0) (bit_at_mask_inside 1 64 (l - 0) (omega arith) (omega arith))
    ∙ ap (is_label_marked all) (let e : l - 0 ≡ l = omega arith in e))
  where
    p : ℕ → Bool
    p l = is_label_marked (low_half all) (l - 0)

high_bit : (all l : ℕ) → 64 ≤ l → is_label_marked (all / 2 ^ 64) (l - 64) ≡ is_label_marked all l
high_bit all l low =
    ap (λ (n : ℕ). nat_eq (n % 2) 1) (shr-shr all 64 (l - 64))
    ∙ ap (is_label_marked all) (let e : 64 + (l - 64) ≡ l = omega arith in e)

high_labels : (all : ℕ) → marked 64 (high_half all) ≡ filter (is_label_marked all) (numbers_from 64 17)
high_labels all =
    ap (filter p) (numbers_join 17 47 64) ∙ filter-append p (numbers_from 64 17) (numbers_from 81 47)
    ∙ ap (λ (l : List ℕ). filter p (numbers_from 64 17) ++ l) (none_pass p 81 47 (λ l a b.
    lost (all / 2 ^ 64) (2 ^ 17 - 1) (l - 64) (bit_at_ones_above 17 (l - 64) (omega arith))))
    ∙ append-nil (filter p (numbers_from 64 17))
    ∙ pass_alike p (is_label_marked all) 64 17 (λ l a b.
    kept (all / 2 ^ 64) (2 ^ 17 - 1) (l - 64) (bit_at_ones 17 (l - 64) (omega arith)) ∙ high_bit all l a)
  where
    p : ℕ → Bool
    p l = is_label_marked (high_half all) (l - 64)

-- the labels of both halves are those of the set
pub halves_of : (all : ℕ) (s : List ℕ) → members all ≡ s →
    marked 0 (low_half all) ++ marked 64 (high_half all) ≡ among s
unfolding members
halves_of all s is =
    ap (λ (l : List ℕ). l ++ marked 64 (high_half all)) (low_labels all)
    ∙ ap (λ (l : List ℕ). filter (is_label_marked all) (numbers_from 1 63) ++ l) (high_labels all)
    ∙ sym (filter-append (is_label_marked all) (numbers_from 1 63) (numbers_from 64 17))
    ∙ ap (filter (is_label_marked all)) (sym (numbers_join 63 17 1))
    ∙ members-rise all ∙ ap among is

pub halves-length : (all : ℕ) (s : List ℕ) → members all ≡ s →
    length (marked 0 (low_half all)) + length (marked 64 (high_half all)) ≡ length (among s)
halves-length all s is =
    omega (arith, ap length (halves_of all s is), length-append (marked 0 (low_half all)) (marked 64 (high_half all)))
