-- What is due stands in order of number, so it is found by number.
use Rattle.std.proofs.{Common.{◌≡◌, ◌≢◌, ◌≤◌, ◌<◌, ℕ, zero, suc, ◌+◌, ◌-◌, ◌==◌, Bool, true, false, cond, not, List, [], ◌∷◌, ◌++◌, length, get_or, filter, map, refl, ap, subst, sym, arith, AllPairs, Result, Ok, Err, take, drop, Option, Some, None, ◌∙◌}, Math.Seq.take-length, lemmas.List.{get_or-map, length-append, length-map, take-append-le}, lemmas.List.Elements.{All-filter, All-map, All-push}, lemmas.List.Kept.AllPairs-filter, lemmas.List.Quantifiers.all_pairs_push}
use Rattle.std.specs.{List.remove, List.Sorted.IsBinarySearchResult, Ordering.nat_cmp}
use Rattle.ason_base.proofs.{KeySearch.{found-key, no-key}, Numbers.equal-not}
use Rattle.ason_base.specs.{declared.ids.NodeId.NodeId, declared.network.TeRow.TeRow}
use Rattle.flood.specs.{declared.due.Due.Due, State.{IsDueInOrder, NeighbourState, is_first, is_from, older_due, queued, queued_unless, unqueued, unqueued_unless}}

abbrev pub Rises : List Due → Type 0
Rises due = AllPairs (λ d e. d.number < e.number) due

-- Without a number

without : ℕ → List Due → List Due
without number due = filter (λ (d : Due). not (d.number == number)) due

all_stay : (number : ℕ) (due : List Due) → ((k : ℕ) (d : Due) → k < length due → (get_or due k d).number ≢ number)
    → without number due ≡ due
unfolding without
all_stay number [] other = refl
all_stay number (e ∷ due) other =
    subst (λ b. cond (not b) (e ∷ without number due) (without number due) ≡ e ∷ due)
    (sym (equal-not e.number number (other 0 e (omega arith))))
    (ap (λ ds. e ∷ ds) (all_stay number due (λ k d within. other (suc k) d (omega arith))))

tail_rises : (e : Due) (due : List Due) → Rises (e ∷ due) → Rises due
tail_rises e due rising i j d before within = rising (suc i) (suc j) d (omega arith) (omega arith)

one_goes : (number : ℕ) (due : List Due) (i : ℕ) → Rises due → i < length due
    → ((d : Due) → (get_or due i d).number ≡ number)
    → remove due i ≡ without number due
unfolding without
one_goes number [] i rising within is = absurd (omega arith)
one_goes number (e ∷ due) zero rising within is =
    let same : (e.number == number) ≡ true = (let equal : e.number ≡ number = is e in grind arith) in
    subst (λ b. due ≡ cond (not b) (e ∷ without number due) (without number due)) (sym same)
    (sym (all_stay number due later))
  where
    later : (k : ℕ) (d : Due) → k < length due → (get_or due k d).number ≢ number
    later k d h equal =
        let first : e.number ≡ number = is e in
        let above : e.number < (get_or due k d).number = rising 0 (suc k) d (omega arith) (omega arith) in
        absurd (omega arith)
one_goes number (e ∷ due) (suc i) rising within is =
    let less : e.number < (get_or due i e).number = rising 0 (suc i) e (omega arith) (omega arith) in
    let equal : (get_or due i e).number ≡ number = is e in
    let other : (e.number == number) ≡ false = equal-not e.number number (λ same. absurd (omega arith)) in
    subst (λ b. e ∷ remove due i ≡ cond (not b) (e ∷ without number due) (without number due)) (sym other)
    (ap (λ ds. e ∷ ds) (one_goes number due i (tail_rises e due rising) (omega arith) (λ d. is d)))

-- where the first row that is due has the number, it is the one that goes
pub first_goes : (number : ℕ) (due : List Due) → Rises due → is_first number due ≡ true
    → drop 1 due ≡ filter (λ (d : Due). not (d.number == number)) due
unfolding without
first_goes number [] rising is = refl
first_goes number (e ∷ due) rising is =
    let same : e.number ≡ number = grind arith in
    one_goes number (e ∷ due) 0 rising (omega arith) (λ d. same)

-- what a binary search by number finds is taken off, and where it finds nothing, nothing is there
abbrev pub IsFoundBy : ℕ → List Due → Result ℕ ℕ → Type 0
IsFoundBy number due r = IsBinarySearchResult (λ (d : Due). nat_cmp d.number number) due r

pub found_goes : (number : ℕ) (due : List Due) (i : ℕ) → Rises due → i < length due → IsFoundBy number due (Ok i)
    → remove due i ≡ filter (λ (d : Due). not (d.number == number)) due
unfolding without
found_goes number due i rising within found =
    one_goes number due i rising within (found-key (λ (d : Due). d.number) due number i found)

pub none_goes : (number : ℕ) (due : List Due) (i : ℕ) → Rises due → IsFoundBy number due (Err i)
    → due ≡ filter (λ (d : Due). not (d.number == number)) due
unfolding without
none_goes number due i rising absent =
    sym (all_stay number due (no-key (λ (d : Due). d.number) due number i rising absent))

-- The order stays.

older_rises : (due : List Due) → Rises due → Rises (map older_due due)
older_rises due rising i j d before within =
    let long : length (map older_due due) ≡ length due = length-map due older_due in
    let first : get_or (map older_due due) i d ≡ older_due (get_or due i d) =
    get_or-map older_due due i d d (omega arith) in
    let second : get_or (map older_due due) j d ≡ older_due (get_or due j d) =
    get_or-map older_due due j d d (omega arith) in
    let less : (get_or due i d).number < (get_or due j d).number = rising i j d before (omega arith) in
    rw (first, second) less

pub older_in_order : (sent : ℕ) (due : List Due) → IsDueInOrder sent due → IsDueInOrder sent (map older_due due)
older_in_order sent due o = record {
  rising = older_rises due o.rising;
  below = All-map (λ (d : Due). d.number ≤ sent) older_due due o.below;
}

pub acked_in_order : (sent number : ℕ) (due : List Due) → IsDueInOrder sent due
    → IsDueInOrder sent (filter (λ (d : Due). not (d.number == number)) due)
acked_in_order sent number due o = record {
  rising = AllPairs-filter (λ (d e : Due). d.number < e.number) (λ (d : Due). not (d.number == number)) due o.rising;
  below = All-filter (λ (d : Due). not (d.number == number)) (λ (d : Due). d.number ≤ sent) due o.below;
}

pub queued_in_order : (sent : ℕ) (due : List Due) (new : Due) → new.number ≡ sent + 1 → IsDueInOrder sent due
    → IsDueInOrder (sent + 1) (due ++ new ∷ [])
queued_in_order sent due new is o = record {
  rising = all_pairs_push (λ (d e : Due). d.number < e.number) due new o.rising
      (λ k d within. (let low : (get_or due k d).number ≤ sent = o.below k d within in omega arith));
  below = All-push (λ (d : Due). d.number ≤ sent + 1) due new
      (λ k d within. (let low : (get_or due k d).number ≤ sent = o.below k d within in omega arith)) (omega arith);
}

-- what a change of the slice of a queue leaves in the queue
pub aged_in_order : (sent : ℕ) (old now new back : List Due) → IsDueInOrder sent old → now ≡ old →
    new ≡ map older_due now
    → back ≡ new → IsDueInOrder sent back
aged_in_order sent old now new back o same is kept = rw (kept, is, same) (older_in_order sent old o)

-- A row that became due is taken back.

pub back_as_it_was : (from : Option NodeId) (origin : NodeId) (age : Option ℕ) (row : TeRow) (l : NeighbourState)
    → unqueued_unless from (queued_unless from origin age row l) ≡ l
back_as_it_was from origin age row l = by_from (is_from from l) refl
  where
    new : Due
    new = record { number = l.sent + 1; age = age; origin = origin; row = row }

    shorter : length (l.due ++ new ∷ []) - 1 ≡ length l.due
    shorter = let long : length (l.due ++ new ∷ []) ≡ length l.due + 1 = length-append l.due (new ∷ []) in omega arith

    due : take (length (l.due ++ new ∷ []) - 1) (l.due ++ new ∷ []) ≡ l.due
    due = ap (λ (n : ℕ). take n (l.due ++ new ∷ [])) shorter ∙
        take-append-le (length l.due) l.due (new ∷ []) (omega arith) ∙ take-length l.due

    sent : l.sent + 1 - 1 ≡ l.sent
    sent = omega arith

    taken : unqueued (queued origin age row l) ≡ l
    taken = λ i. record { id = l.id; sent = sent i; due = due i }

    same_from : (f : Option NodeId) → is_from f (queued origin age row l) ≡ is_from f l
    same_from None = refl
    same_from (Some n) = refl

    by_from : (b : Bool) → is_from from l ≡ b → unqueued_unless from (cond b l (queued origin age row l)) ≡ l
    by_from true e = subst (λ b. cond b l (unqueued l) ≡ l) (sym e) refl
    by_from false e = subst (λ b. cond b (queued origin age row l) (unqueued (queued origin age row l)) ≡ l)
        (sym (same_from from ∙ e)) taken
