-- Sets of labels out of lists of numbers.
use Rattle.std.proofs.{Common.{◌≡◌, ℕ, zero, suc, ◌+◌, ◌<◌, ◌≤◌, ◌&&◌, ◌||◌, List, [], ◌∷◌, ◌++◌, length, drop, filter, Bool, true, false, eqb, ltb, refl, ap, sym, ◌∙◌, arith, append_assoc}, Math.Bool.{and-false, and-true, or-false, or_assoc, or_comm}, lemmas.List.append-nil}
use Rattle.ason_base.specs.{declared.limits.TheConstants.MOST_LABELS, Labels.{has, up_to, with_label, numbers_from}}
use Rattle.ason_base.proofs.MaskMembers.{has-filter, filter-agree, has-bound, has-low}
use Rattle.byteorder.specs.Endian.{big_number}
use Rattle.wire_buf.specs.Objects.{numbers}
use Rattle.rsvp_objects.specs.LabelSets.{among, is_between, between}

has_more : (front : List ℕ) (n l : ℕ) → has (front ++ n ∷ []) l ≡ (has front l || eqb n l)
has_more [] n l = or-false (eqb n l)
has_more (x ∷ front) n l =
    ap (λ (b : Bool). eqb x l || b) (has_more front n l) ∙ sym (or_assoc (eqb x l) (has front l) (eqb n l))

-- among the labels, the set tells what the list has
has_among : (front : List ℕ) (l : ℕ) → has (up_to MOST_LABELS) l ≡ true → has (among front) l ≡ has front l
has_among front l h = has-filter (has front) (up_to MOST_LABELS) l ∙ ap (λ (b : Bool). b && has front l) h

eqb_commutes : (a b : ℕ) → eqb a b ≡ eqb b a
eqb_commutes a b = grind arith

one_more : (s front : List ℕ) (n : ℕ) → s ≡ among front → with_label s n ≡ among (front ++ n ∷ [])
one_more s front n e = filter-agree (λ x. eqb x n || has s x) (has (front ++ n ∷ [])) (up_to MOST_LABELS) (λ l h.
    ap (λ (b : Bool). eqb l n || b) (ap (λ (t : List ℕ). has t l) e ∙ has_among front l h)
    ∙ or_comm (eqb l n) (has front l) ∙ ap (λ (b : Bool). has front l || b) (eqb_commutes l n)
    ∙ sym (has_more front n l))

pub differ : (n l : ℕ) → (n ≡ l → ⊥) → eqb n l ≡ false
differ n l h = grind arith

-- numbers read so far, and the bytes left
pub record ReadNumbers (bytes left set : List ℕ) : Type 0 where
  pub front : List ℕ
  pub whole : numbers bytes ≡ front ++ numbers left
  pub is : set ≡ among front

pub none_among : (n first : ℕ) → filter (has []) (numbers_from first n) ≡ []
unfolding numbers_from
none_among zero first = refl
none_among (suc n) first = none_among n (first + 1)

pub numbers_begin : (bytes set : List ℕ) → set ≡ [] → ReadNumbers bytes bytes set
numbers_begin bytes set e = record { front = []; whole = refl; is = e ∙ sym (none_among MOST_LABELS 1) }

number_first : (left : List ℕ) → 4 ≤ length left → numbers left ≡ big_number 4 left ∷ numbers (drop 4 left)
number_first [] h = absurd (omega arith)
number_first (a ∷ []) h = absurd (omega arith)
number_first (a ∷ b ∷ []) h = absurd (omega arith)
number_first (a ∷ b ∷ c ∷ []) h = absurd (omega arith)
number_first (a ∷ b ∷ c ∷ d ∷ left) h = refl

number_none : (left : List ℕ) → length left < 4 → numbers left ≡ []
number_none [] h = refl
number_none (a ∷ []) h = refl
number_none (a ∷ b ∷ []) h = refl
number_none (a ∷ b ∷ c ∷ []) h = refl
number_none (a ∷ b ∷ c ∷ d ∷ left) h = absurd (omega arith)

pub numbers_go_on : (bytes left after set more : List ℕ) (n : ℕ) → 4 ≤ length left → n ≡ big_number 4 left →
    after ≡ drop 4 left → more ≡ with_label set n → ReadNumbers bytes left set → ReadNumbers bytes after more
numbers_go_on bytes left after set more n long is_n is_after is_more so_far = record {
  front = so_far.front ++ n ∷ [];
  whole =
      so_far.whole ∙ ap (λ (l : List ℕ). so_far.front ++ l)
      (number_first left long ∙ ap (λ (k : ℕ). k ∷ numbers (drop 4 left)) (sym is_n)
      ∙ ap (λ (l : List ℕ). n ∷ numbers l) (sym is_after))
      ∙ sym (append_assoc so_far.front (n ∷ []) (numbers after));
  is = is_more ∙ one_more set so_far.front n so_far.is;
}

pub numbers_end : (bytes left set : List ℕ) → length left < 4 → ReadNumbers bytes left set → set ≡ among (numbers bytes)
numbers_end bytes left set short so_far =
    so_far.is ∙ ap among (sym (so_far.whole ∙ ap (λ (l : List ℕ). so_far.front ++ l) (number_none left short)
    ∙ append-nil so_far.front))

-- ---- ranges

-- the labels of the range below n
abbrev pub between_below : ℕ → ℕ → ℕ → List ℕ
between_below low high n = filter (λ l. is_between low high l && ltb l n) (up_to MOST_LABELS)

pub range_begins : (low high : ℕ) (s : List ℕ) → s ≡ [] → s ≡ between_below low high 1
range_begins low high s e =
    e ∙ sym (none_among MOST_LABELS 1) ∙ filter-agree (has []) (λ l. is_between low high l && ltb l 1)
    (up_to MOST_LABELS) (λ l h.
    let low_end = has-low MOST_LABELS 1 l h in
    let none : ltb l 1 ≡ false = grind arith in
    sym (ap (λ (b : Bool). is_between low high l && b) none ∙ and-false (is_between low high l)))

one_above : (b : Bool) (l n : ℕ) → (n ≡ l → b ≡ true) → (eqb l n || (b && ltb l n)) ≡ (b && ltb l (n + 1))
one_above true l n h = grind arith
one_above false l n h = ap (λ (t : Bool). t || false) (differ l n (λ e. cc (h (sym e))))

none_above : (b : Bool) (l n : ℕ) → (n ≡ l → b ≡ false) → (b && ltb l n) ≡ (b && ltb l (n + 1))
none_above true l n h = let other : n ≡ l → ⊥ = (λ e. cc (h e)) in grind arith
none_above false l n h = refl

-- a set of labels is the labels among its members
pub is_among_itself : (q : ℕ → Bool) → filter q (up_to MOST_LABELS) ≡ among (filter q (up_to MOST_LABELS))
is_among_itself q =
    filter-agree q (has (filter q (up_to MOST_LABELS))) (up_to MOST_LABELS)
    (λ l h. sym (has-filter q (up_to MOST_LABELS) l ∙ ap (λ (b : Bool). b && q l) h))

pub range_takes : (low high n : ℕ) (s more : List ℕ) → s ≡ between_below low high n → is_between low high n ≡ true →
    more ≡ with_label s n → more ≡ between_below low high (n + 1)
range_takes low high n s more e inside is_more =
    is_more
    ∙ filter-agree (λ l. eqb l n || has s l) (λ l. is_between low high l && ltb l (n + 1)) (up_to MOST_LABELS) (λ l h.
    ap (λ (b : Bool). eqb l n || b) (ap (λ (t : List ℕ). has t l) e
    ∙ has-filter (λ l. is_between low high l && ltb l n) (up_to MOST_LABELS) l
    ∙ ap (λ (b : Bool). b && (is_between low high l && ltb l n)) h)
    ∙ one_above (is_between low high l) l n (λ same. ap (is_between low high) (sym same) ∙ inside))

pub range_skips : (low high n : ℕ) (s : List ℕ) → s ≡ between_below low high n → is_between low high n ≡ false →
    s ≡ between_below low high (n + 1)
range_skips low high n s e outside =
    e ∙ filter-agree (λ l. is_between low high l && ltb l n) (λ l. is_between low high l && ltb l (n + 1))
    (up_to MOST_LABELS)
    (λ l h.
    none_above (is_between low high l) l n (λ same. ap (is_between low high) (sym same) ∙ outside))

pub range_ends : (low high n : ℕ) (s : List ℕ) → 81 ≤ n → s ≡ between_below low high n → s ≡ between low high
range_ends low high n s end e =
    e ∙ filter-agree (λ l. is_between low high l && ltb l n) (is_between low high) (up_to MOST_LABELS) (λ l h.
    let top = has-bound MOST_LABELS 1 l h in
    let below : ltb l n ≡ true = grind arith in
    ap (λ (b : Bool). is_between low high l && b) below ∙ and-true (is_between low high l))
