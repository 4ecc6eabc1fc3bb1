-- All places from which tight arcs lead to the end, marked one after the other.
use Rattle.std.proofs.{Common.{◌≡◌, inl, inr, ℕ, zero, suc, ◌+◌, ◌<◌, ◌≤◌, List, [], ◌∷◌, ◌++◌, All, Option, length, set, take, drop, replicate, Bool, true, false, sum_by, refl, sym, ◌∙◌, ap, subst, arith, length-set, length-append}, Math.ListN.get_or-append, lemmas.List.length-replicate, lemmas.List.Elements.{All-push, Contains-append_left, Contains-push, Contains-push_cases}}
use Rattle.std.specs.List.{Contains}
use Rattle.route_least.specs.{declared.places.Arc.Arc, Costs.is_place_marked, Marking.{AreMarking, AreOnward, HasMarked, unmarked}, Trace.{AreMarked, IsTight}}
use Rattle.route_least.proofs.{Lowered.marked_same, Passed.written_back, PlaceLists.nothing, Marked.fresh_mark}

pub unmarked_all : (n place : ℕ) → is_place_marked (replicate n false) place ≡ false
unmarked_all zero place = refl
unmarked_all (suc n) zero = refl
unmarked_all (suc n) (suc place) = unmarked_all n place

only_end : (n end p : ℕ) → is_place_marked (set (replicate n false) end true) p ≡ true → p ≡ end
only_end n end p on = elim (fresh_mark (replicate n false) end p on) [
  | inl older ↦ absurd (let off = unmarked_all n p in cc (older, off))
  | inr e ↦ e
]

pub first_marking : (MayGo : ℕ → Arc → Type 0) (costs : List (Option ℕ)) (n end : ℕ) (none : List ℕ) → none ≡ [] →
    end < n → AreMarking MayGo costs end (set (replicate n false) end true) (none ++ end ∷ [])
first_marking MayGo costs n end none is inside = record {
  end = marked_same (replicate n false) end true room;
  onward = λ p on. inl (only_end n end p on);
  closed = λ p arc leads. inr (subst (Contains (none ++ end ∷ [])) (sym (only_end n end arc.head leads.marked))
      (Contains-push none end));
  marked = λ p waits. elim (Contains-push_cases none end p waits) [
    | inl old ↦ absurd (nothing none p is old)
    | inr e ↦ subst (λ k. is_place_marked (set (replicate n false) end true) k ≡ true) e
        (marked_same (replicate n false) end true room)
  ];
  within = subst (λ xs. All (λ p. p < length (set (replicate n false) end true)) (xs ++ end ∷ [])) (sym is)
      (All-push (λ p. p < length (set (replicate n false) end true)) [] end (λ k d h. absurd (omega arith)) long);
}
  where
    room : end < length (replicate {A = Bool} n false)
    room = omega (arith, length-replicate {A = Bool} n false)

    long : end < length (set (replicate n false) end true)
    long = subst (λ k. end < k) (sym (length-set (replicate n false) end true)) room

first_part : (P : ℕ → Type 0) (xs : List ℕ) (x : ℕ) → All P (xs ++ x ∷ []) → All P xs
first_part P xs x all k d within =
    let long : length (xs ++ x ∷ []) ≡ length xs + 1 = length-append xs (x ∷ []) in
    subst P (get_or-append xs (x ∷ []) d k within) (all k d (omega arith))

-- a waiting place is taken, and those before it are marked
pub next_marking : (MayGo : ℕ → Arc → Type 0) (costs : List (Option ℕ)) (end place : ℕ) (old new : List Bool)
    (all rest after : List ℕ) → all ≡ rest ++ place ∷ [] → length new ≡ length old →
    AreMarking MayGo costs end old all → HasMarked old new rest after →
    (AreOnward MayGo costs end old → AreOnward MayGo costs end new) →
    ((p : ℕ) (arc : Arc) → MayGo p arc → IsTight costs p arc → arc.head ≡ place → is_place_marked new p ≡ true) →
    AreMarking MayGo costs end new after
next_marking MayGo costs end place old new all rest after is len m has onward seen = record {
  end = has.kept end m.end;
  onward = onward m.onward;
  closed = λ p arc leads. elim (has.fresh arc.head leads.marked) [
    | inl older ↦ elim (m.closed p arc (record { goes = leads.goes; tight = leads.tight; marked = older })) [
      | inl on ↦ inl (has.kept p on)
      | inr waits ↦ elim (Contains-push_cases rest place arc.head (subst (λ xs. Contains xs arc.head) is waits)) [
        | inl still ↦ inr (has.waiting arc.head still)
        | inr e ↦ inl (seen p arc leads.goes leads.tight (sym e))
      ]
    ]
    | inr waits ↦ inr waits
  ];
  marked = has.marked (λ p there. m.marked p (subst (λ xs. Contains xs p) (sym is)
      (Contains-append_left rest (place ∷ []) p there)));
  within = subst (λ n. All (λ p. p < n) after) (sym len)
      (has.within (first_part (λ p. p < length old) rest place (subst (All (λ p. p < length old)) is m.within)));
}

pub all_marked : (MayGo : ℕ → Arc → Type 0) (costs : List (Option ℕ)) (end : ℕ) (marks : List Bool)
    (waiting : List ℕ) → waiting ≡ [] → AreMarking MayGo costs end marks waiting → AreMarked MayGo costs end marks
all_marked MayGo costs end marks waiting none m = record {
  end = m.end;
  closed = λ p arc leads. elim (m.closed p arc leads) [
    | inl on ↦ on
    | inr waits ↦ absurd
        (nothing waiting arc.head none waits)
  ];
  onward = m.onward;
}

-- Rounds that work on all of a vector

module _ (n place : ℕ) (items seen new : List Bool) (all rest after : List ℕ) (is : all ≡ rest ++ place ∷ [])
    (same : seen ≡ items) (long : length seen ≡ n) (len : length new ≡ length seen)
    (has : HasMarked seen new rest after) where
  back : take n (new ++ drop (length new) items) ≡ new
  back = written_back n new items (len ∙ long)

  pub marked_round : (MayGo : ℕ → Arc → Type 0) (costs : List (Option ℕ)) (end : ℕ) →
      AreMarking MayGo costs end items all → (AreOnward MayGo costs end seen → AreOnward MayGo costs end new) →
      ((p : ℕ) (arc : Arc) → MayGo p arc → IsTight costs p arc → arc.head ≡ place → is_place_marked new p ≡ true) →
      AreMarking MayGo costs end (take n (new ++ drop (length new) items)) after
  marked_round MayGo costs end m onward before =
      subst (λ marks. AreMarking MayGo costs end marks after) (sym back)
      (next_marking MayGo costs end place seen new all rest after is len
      (subst (λ marks. AreMarking MayGo costs end marks all) (sym same) m) has onward before)

  pub round_len : length (take n (new ++ drop (length new) items)) ≡ length items
  round_len = ap length back ∙ len ∙ ap length same

  pub round_fewer : sum_by unmarked (take n (new ++ drop (length new) items)) + length after < sum_by unmarked items
      + length all
  round_fewer =
      let h : sum_by unmarked new + length after ≤ sum_by unmarked seen + length rest = has.fewer in
      let a : sum_by unmarked (take n (new ++ drop (length new) items)) ≡ sum_by unmarked new =
      ap (sum_by unmarked) back in
      let b : sum_by unmarked seen ≡ sum_by unmarked items = ap (sum_by unmarked) same in
      let c : length all ≡ length rest + 1 = ap length is ∙ length-append rest (place ∷ []) in
      omega arith
