-- A LABEL_SET as it is written, and that it is read again.
use Rattle.std.proofs.{Common.{◌≡◌, ℕ, zero, suc, ◌+◌, ◌-◌, ◌*◌, ◌<◌, ◌≤◌, ◌^◌, ◌||◌, List, [], ◌∷◌, ◌++◌, length, drop, replicate, set, take, max, All, Bool, true, false, refl, ap, sym, ◌∙◌, arith, inl, inr}, lemmas.List.take_at, lemmas.List.Elements.{All-filter, All-nil, All-cons}, lemmas.List.Sums.{length-filter, count_by-le-length}}
use Rattle.ason_base.specs.{declared.limits.TheConstants.MOST_LABELS, Labels.{has, up_to, numbers_from}}
use Rattle.ason_base.proofs.MaskMembers.{filter-agree, has-low}
use Rattle.byteorder.specs.Endian.{big_number, big_bytes}
use Rattle.wire_buf.specs.Objects.{numbers, object}
use Rattle.wire_buf.proofs.Numbers.{numbers-length, numbers_again}
use Rattle.rsvp_objects.specs.{declared.label_set.LabelSetObject.LabelSetObject, LabelSets.{among, or_zero, laid, labels_bytes, label_set_bytes, action_of, listed, IsLabelSet, HasLabels}}
use Rattle.rsvp_objects.proofs.Labels.{differ, is_among_itself, none_among}

length-numbers_from : (k first : ℕ) → length (numbers_from first k) ≡ k
unfolding numbers_from
length-numbers_from zero first = refl
length-numbers_from (suc k) first = omega (arith, length-numbers_from k (first + 1))

-- each of them is one of the numbers from 1 to 80
pub among_few : (s : List ℕ) → length (among s) ≤ MOST_LABELS
among_few s =
    omega (
      arith,
      length-filter (has s) (up_to MOST_LABELS),
      count_by-le-length (has s) (up_to MOST_LABELS),
      length-numbers_from MOST_LABELS 1,
    )

or_zero-length : (ls : List ℕ) → length (or_zero ls) ≡ max (length ls) 1
or_zero-length [] = refl
or_zero-length (l ∷ ls) = omega arith

-- How long the body of a LABEL_SET is.
label_set-length : (o : LabelSetObject) → length (label_set_bytes o) ≡ 4 + 4 * max (length (among o.labels)) 1
label_set-length o =
    let ls = or_zero (among o.labels) in omega (arith, numbers-length ls, or_zero-length (among o.labels))

-- Zeros behind no label are the label 0.
zeros_are_zero : (ls : List ℕ) → laid ls (8 + 4 * length ls) ≡ laid (or_zero ls) (8 + 4 * length (or_zero ls))
zeros_are_zero [] = refl
zeros_are_zero (l ∷ ls) = refl

action_byte : (include : Bool) → action_of include ∷ [] ≡ big_bytes 1 (action_of include)
action_byte true = refl
action_byte false = refl

-- The object stands at the front, once the fields before its labels are written.
pub object_laid : (headed bytes : List ℕ) (o : LabelSetObject) (action end len : ℕ) →
    action ≡ action_of o.include → end ≡ 8 + 4 * length (among o.labels) → len ≡ max end 12 →
    bytes ≡ laid (among o.labels) end → headed ≡ big_bytes 2 len ++ drop 2 bytes →
    take len (set (set (set (set headed 2 36) 3 1) 4 action) 7 2) ≡ object 36 1 (label_set_bytes o)
object_laid headed bytes o action end len is_action is_end is_len is_laid is_headed =
    let ls = among o.labels in
    let body = label_set_bytes o in
    let total : len ≡ 4 + length body = omega (arith, label_set-length o) in
    let rest : List ℕ = replicate (328 - (8 + 4 * length (or_zero ls))) 0 in
    let same : bytes ≡ laid (or_zero ls) (8 + 4 * length (or_zero ls))
    = is_laid ∙ ap (laid ls) is_end ∙ zeros_are_zero ls in
    let fields = λ (n : ℕ) (act l : List ℕ). big_bytes 2 n ++ (36 ∷ 1 ∷ (act ++ (0 ∷ 0 ∷ 2 ∷ l))) in
    let whole : set (set (set (set headed 2 36) 3 1) 4 action) 7 2 ≡ object 36 1 body ++ rest
    = ap (λ (l : List ℕ). set (set (set (set l 2 36) 3 1) 4 action) 7 2)
    (is_headed ∙ ap (λ (l : List ℕ). big_bytes 2 len ++ drop 2 l) same)
    ∙ ap (λ (n : ℕ). fields n (action ∷ []) (labels_bytes (or_zero ls) ++ rest)) total
    ∙ ap (λ (act : List ℕ). fields (4 + length body) act (labels_bytes (or_zero ls) ++ rest))
    (ap (λ (k : ℕ). k ∷ []) is_action ∙ action_byte o.include) in
    ap (take len) whole ∙ take_at (object 36 1 body) rest len (omega (arith, total))

-- ---- what is written is read again

small_numbers : (n first : ℕ) → first + n ≤ 100 → All (λ l. l < 2 ^ 32) (numbers_from first n)
unfolding numbers_from
small_numbers zero first h = All-nil (λ l. l < 2 ^ 32)
small_numbers (suc n) first h =
    All-cons (λ l. l < 2 ^ 32) first (numbers_from (first + 1) n) (omega arith)
    (small_numbers n (first + 1) (omega arith))

small_or_zero : (ls : List ℕ) → All (λ l. l < 2 ^ 32) ls → All (λ l. l < 2 ^ 32) (or_zero ls)
small_or_zero [] small = All-cons (λ l. l < 2 ^ 32) 0 [] (omega arith) small
small_or_zero (l ∷ ls) small = small

-- the number 0 is no label
zero_is_none : among (0 ∷ []) ≡ []
zero_is_none =
    filter-agree (has (0 ∷ [])) (has []) (up_to MOST_LABELS) (λ l h. let low = has-low MOST_LABELS 1 l h in
    ap (λ (b : Bool). b || false) (differ 0 l (λ e. omega arith))) ∙ none_among MOST_LABELS 1

among_or_zero : (s ls : List ℕ) → among s ≡ ls → among (or_zero ls) ≡ ls
among_or_zero s [] e = zero_is_none
among_or_zero s (l ∷ ls) e = ap among (sym e) ∙ sym (is_among_itself (has s)) ∙ e

written_listed : (o : LabelSetObject) → o.labels ≡ among o.labels → HasLabels (label_set_bytes o)
    × (o ≡ listed o.include (label_set_bytes o))
written_listed o is =
    let ls = among o.labels in
    let small = small_or_zero ls (All-filter (has o.labels) (λ l. l < 2 ^ 32) (up_to MOST_LABELS)
    (small_numbers MOST_LABELS 1 (omega arith))) in
    let back : among (numbers (labels_bytes (or_zero ls))) ≡ ls = ap among (numbers_again (or_zero ls) small)
    ∙ among_or_zero o.labels ls refl in
    let len = numbers-length (or_zero ls) in
    let some = or_zero-length ls in
    ((omega arith, omega arith), λ i. record { include = o.include; labels = (is ∙ sym back) i })

label_set_of : (o : LabelSetObject) (include : Bool) → o.include ≡ include → o.labels ≡ among o.labels →
    IsLabelSet (label_set_bytes o) o
label_set_of o true e is =
    let w = written_listed o is in
    inl (
      ap (λ (b : Bool). big_number 1 (big_bytes 1 (action_of b))) e,
      w.0,
      w.1
          ∙ ap (λ (b : Bool). listed b (label_set_bytes o)) e,
    )
label_set_of o false e is =
    let w = written_listed o is in
    inr (inl (
      ap (λ (b : Bool). big_number 1 (big_bytes 1 (action_of b))) e,
      w.0,
      w.1
          ∙ ap (λ (b : Bool). listed b (label_set_bytes o)) e,
    ))

pub label_set_again : (o : LabelSetObject) → o.labels ≡ among o.labels → IsLabelSet (label_set_bytes o) o
label_set_again o is = label_set_of o o.include refl is
