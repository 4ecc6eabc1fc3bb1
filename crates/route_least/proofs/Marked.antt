-- Places marked from which tight arcs lead to the end.
use Rattle.std.proofs.{Common.{◌≡◌, ◌⊎◌, inl, inr, ℕ, ◌+◌, ◌<◌, ◌≤◌, List, [], ◌∷◌, ◌++◌, Option, Some, length, get_or, set, take, Bool, true, false, sum_by, refl, sym, ◌∙◌, ap, subst, arith, length-append}, lemmas.Bool.cases_eq, lemmas.List.take_more, lemmas.List.Elements.{All-push, Contains-append_left, Contains-push, Contains-push_cases}, lemmas.List.Sums.sum_by-set}
use Rattle.std.specs.List.{Contains}
use Rattle.route_least.specs.{declared.places.Arc.Arc, declared.places.Place.Place, Costs.{cost_at, is_place_marked}, Marking.{AreOnward, ComesBy, Crosses, HasMarked, unmarked}, Network.{AreSound, HasArc}, Trace.{IsTight, ArcLeadsOn}}
use Rattle.route_least.proofs.{Lowered.{marked_other, marked_same}, PlaceLists.{arc_is, nothing, some_same}}

pub no_marked : (marks : List Bool) (waiting : List ℕ) → HasMarked marks marks waiting waiting
no_marked marks waiting = record {
  kept = λ p h. h;
  fresh = λ p h. inl h;
  waiting = λ p h. h;
  marked = λ h. h;
  within = λ h. h;
  fewer = omega arith;
}

kept_mark : (marks : List Bool) (q p : ℕ) → q < length marks → is_place_marked marks p ≡ true →
    is_place_marked (set marks q true) p ≡ true
kept_mark marks q p within on = elim (cases_eq p q) [
  | inl e ↦ subst (λ k. is_place_marked (set marks q true) k ≡ true) (sym e) (marked_same marks q true within)
  | inr other ↦ marked_other marks q p true other ∙ on
]

-- a place that is marked now was so before, or is the one that was just marked
pub fresh_mark : (marks : List Bool) (q p : ℕ) → is_place_marked (set marks q true) p ≡ true →
    (is_place_marked marks p ≡ true) ⊎ (p ≡ q)
fresh_mark marks q p on = elim (cases_eq p q) [
  | inl e ↦ inr e
  | inr other ↦ inl (sym (marked_other marks q p true other) ∙ on)
]

-- one place is marked, and waits
pub mark_one : (old marks : List Bool) (before waiting : List ℕ) (q : ℕ) → length marks ≡ length old →
    q < length marks → is_place_marked marks q ≡ false → HasMarked old marks before waiting →
    HasMarked old (set marks q true) before (waiting ++ q ∷ [])
mark_one old marks before waiting q len within off has = record {
  kept = λ p h. kept_mark marks q p within (has.kept p h);
  fresh = λ p h. elim (fresh_mark marks q p h) [
    | inl on ↦ elim (has.fresh p on) [
      | inl older ↦ inl older
      | inr waits ↦ inr
          (Contains-append_left waiting (q ∷ []) p waits)
    ]
    | inr e ↦ inr (subst (Contains (waiting ++ q ∷ [])) (sym e) (Contains-push waiting q))
  ];
  waiting = λ p h. Contains-append_left waiting (q ∷ []) p (has.waiting p h);
  marked = λ was p there. elim (Contains-push_cases waiting q p there) [
    | inl earlier ↦ kept_mark marks q p within (has.marked was p earlier)
    | inr e ↦ subst (λ k. is_place_marked (set marks q true) k ≡ true) e (marked_same marks q true within)
  ];
  within = λ h. All-push (λ p. p < length old) waiting q (has.within h) (subst (λ n. q < n) len within);
  fewer =
      (let sum : sum_by unmarked (set marks q true) + unmarked (is_place_marked marks q) ≡ sum_by unmarked marks + 0 =
      sum_by-set unmarked marks q true false within in
      let one : unmarked (is_place_marked marks q) ≡ 1 = ap unmarked off in
      let long : length (waiting ++ q ∷ []) ≡ length waiting + 1 = length-append waiting (q ∷ []) in
      let h : sum_by unmarked marks + length waiting ≤ sum_by unmarked old + length before = has.fewer in
      omega arith);
}

still_leads : (MayGo : ℕ → Arc → Type 0) (costs : List (Option ℕ)) (marks : List Bool) (q : ℕ) (p : ℕ) (arc : Arc) →
    q < length marks → ArcLeadsOn MayGo costs marks p arc → ArcLeadsOn MayGo costs (set marks q true) p arc
still_leads MayGo costs marks q p arc within leads =
    record { goes = leads.goes; tight = leads.tight; marked = kept_mark marks q arc.head within leads.marked }

-- after some of the arcs of a place
pub record IsMarkingBefore (places : List Place) (closed : List Bool) (costs : List (Option ℕ)) (old : List Bool)
    (before : List ℕ) (place cost : ℕ) (done : List Arc) (marks : List Bool) (waiting : List ℕ) : Type 0 where
  pub has : HasMarked old marks before waiting
  pub on : is_place_marked marks place ≡ true
  pub onward : (end : ℕ) → AreOnward (Crosses places closed) costs end old →
      AreOnward (Crosses places closed) costs end marks
  pub seen : (arc : Arc) → Contains done arc → ComesBy closed costs cost arc → is_place_marked marks arc.head ≡ true

module _ (places : List Place) (closed : List Bool) (costs : List (Option ℕ))
    (sound : AreSound (length closed) places) where
  -- the arc back from where an arc comes by
  pub leads_back : (place cost : ℕ) (arc : Arc) (marks : List Bool) → HasArc places place arc →
      cost_at costs place ≡ Some cost → ComesBy closed costs cost arc → is_place_marked marks place ≡ true →
      (back : Arc) ×
      ArcLeadsOn (Crosses places closed) costs marks arc.head back
  leads_back place cost arc marks there has by on =
      let back = sound.back place arc there in (
        back.0,
        record {
          goes = (back.1, subst (λ r. is_place_marked closed r ≡ false) (sym back.2.row) by.row);
          tight = record {
            cost = by.before;
            tail = by.has;
            head = subst (λ p. cost_at costs p ≡ Some (by.before + back.0.metric)) (sym back.2.head)
                (has ∙ ap Some (sym by.rise ∙ ap (λ m. by.before + m) (sym back.2.metric)));
          };
          marked = subst (λ p. is_place_marked marks p ≡ true) (sym back.2.head) on;
        },
      )

  pub onward_more : (end place cost q : ℕ) (arc : Arc) (marks : List Bool) → HasArc places place arc →
      cost_at costs place ≡ Some cost → ComesBy closed costs cost arc → is_place_marked marks place ≡ true →
      arc.head ≡ q →
      q < length marks → AreOnward (Crosses places closed) costs end marks →
      AreOnward (Crosses places closed) costs end (set marks q true)
  onward_more end place cost q arc marks there has by on head within onward p h = elim (fresh_mark marks q p h) [
    | inl older ↦ elim (onward p older) [
      | inl e ↦ inl e
      | inr leads ↦ inr (leads.0, still_leads (Crosses places closed) costs marks q p leads.0 within leads.1)
    ]
    | inr e ↦
        (let back = leads_back place cost arc (set marks q true) there has by (kept_mark marks q place within on) in
        inr (
          back.0,
          subst (λ k. ArcLeadsOn (Crosses places closed) costs (set marks q true) k back.0)
              (head ∙ sym e) back.1,
        ))
  ]

  -- a tight arc to the place comes back as one along which costs rise to that of the place
  pub comes_back : (place cost p : ℕ) (d : Place) (arc : Arc) → cost_at costs place ≡ Some cost →
      Crosses places closed p arc → IsTight costs p arc → arc.head ≡ place → (back : Arc) ×
      Contains (get_or places place d).arcs.items back × ComesBy closed costs cost back × (back.head ≡ p)
  comes_back place cost p d arc has goes tight head =
      let back = sound.back p arc goes.0 in
      let over : cost ≡ tight.cost + arc.metric = some_same
      (sym has ∙ subst (λ k. cost_at costs k ≡ Some (tight.cost + arc.metric)) head tight.head) in (
        back.0,
        arc_is places place d back.0 (subst (λ k. HasArc places k back.0) head back.1),
        record {
          row = subst (λ r. is_place_marked closed r ≡ false) (sym back.2.row) goes.1;
          before = tight.cost;
          has = subst (λ k. cost_at costs k ≡ Some tight.cost) (sym back.2.head) tight.tail;
          rise = ap (λ m. tight.cost + m) back.2.metric ∙ sym over;
        },
        back.2.head,
      )

  pub marking_none : (old : List Bool) (before : List ℕ) (place cost : ℕ) → is_place_marked old place ≡ true →
      IsMarkingBefore places closed costs old before place cost [] old before
  marking_none old before place cost on = record {
    has = no_marked old before;
    on = on;
    onward = λ end h. h;
    seen = λ arc there by. absurd (nothing [] arc refl there);
  }

  module _ (old : List Bool) (before : List ℕ) (place cost : ℕ) (arcs : List Arc) (i : ℕ) (d : Arc)
      (marks : List Bool) (waiting : List ℕ) (within : i < length arcs)
      (m : IsMarkingBefore places closed costs old before place cost (take i arcs) marks waiting) where
    pub marked_more : HasArc places place (get_or arcs i d) → cost_at costs place ≡ Some cost →
        ComesBy closed costs cost (get_or arcs i d) → length marks ≡ length old →
        (get_or arcs i d).head < length marks → is_place_marked marks (get_or arcs i d).head ≡ false →
        IsMarkingBefore places closed costs old before place cost (take (i + 1) arcs)
        (set marks (get_or arcs i d).head true) (waiting ++ (get_or arcs i d).head ∷ [])
    marked_more there has by len inside off =
        let arc = get_or arcs i d in
        record {
          has = mark_one old marks before waiting arc.head len inside off m.has;
          on = kept_mark marks arc.head place inside m.on;
          onward = λ end h. onward_more end place cost arc.head arc marks there has by m.on refl inside
              (m.onward end h);
          seen = λ other known comes.
              elim (Contains-push_cases (take i arcs) arc other
              (subst (λ xs. Contains xs other) (take_more arcs i d within) known)) [
                | inl earlier ↦ kept_mark marks arc.head other.head inside (m.seen other earlier comes)
                | inr e ↦ subst (λ a. is_place_marked (set marks arc.head true) a.head ≡ true) e
                    (marked_same marks arc.head true inside)
              ];
        }

    pub marked_same_more : (ComesBy closed costs cost (get_or arcs i d) →
        is_place_marked marks (get_or arcs i d).head ≡ true) →
        IsMarkingBefore places closed costs old before place cost (take (i + 1) arcs) marks waiting
    marked_same_more seen = record {
      has = m.has;
      on = m.on;
      onward = m.onward;
      seen = λ other known comes.
          elim (Contains-push_cases (take i arcs) (get_or arcs i d) other
          (subst (λ xs. Contains xs other) (take_more arcs i d within) known)) [
            | inl earlier ↦ m.seen other earlier comes
            | inr e ↦ subst (λ a. is_place_marked marks a.head ≡ true) e
                (seen (subst (ComesBy closed costs cost) (sym e) comes))
          ];
    }

  -- after all of them
  pub all_before : (old : List Bool) (before : List ℕ) (place cost : ℕ) (d : Place) (marks : List Bool)
      (waiting : List ℕ) → cost_at costs place ≡ Some cost →
      IsMarkingBefore places closed costs old before place cost (get_or places place d).arcs.items marks waiting →
      (p : ℕ) (arc : Arc) → Crosses places closed p arc → IsTight costs p arc → arc.head ≡ place →
      is_place_marked marks p ≡ true
  all_before old before place cost d marks waiting has m p arc goes tight head =
      let back = comes_back place cost p d arc has goes tight head in
      subst (λ k. is_place_marked marks k ≡ true) back.3 (m.seen back.0 back.1 back.2)
