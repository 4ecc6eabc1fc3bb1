-- What stands in a list of places, and what a change of the list leaves.
use Rattle.std.proofs.{Common.{◌≡◌, ◌≢◌, inl, inr, ℕ, zero, suc, ◌<◌, List, [], ◌∷◌, ◌++◌, Some, None, length, get_or, set, slice_get, refl, sym, ◌∙◌, ap, subst, arith}, lemmas.Bool.cases_eq, lemmas.List.Elements.{Contains-append_left, Contains-get_or, Contains-push, Contains-push_cases}, lemmas.Option.{get_or_from_slice_get, slice_get-get_or, slice_get_within}}
use Rattle.std.specs.List.{Contains}
use Rattle.ason_base.specs.declared.ids.NodeId.{NodeId}
use Rattle.ason_base.proofs.Places.{get-pushed, get-last}
use Rattle.route_least.specs.{declared.places.Arc.Arc, declared.places.Place.Place, Network.{AreOnce, AreSound, HasArc, HasGained, HasNode, HasSeated, IsArcWithin}}

pub some_same : {X : Type 0} {x y : X} → Some x ≡ Some y → x ≡ y
some_same e = cc

pub none_some : {X : Type 0} {x : X} → None ≡ Some x → ⊥
none_some e = cc

-- Elements by place

pub get_kept : {X : Type 0} (xs : List X) (y : X) (i : ℕ) (x : X) → slice_get xs i ≡ Some x →
    slice_get (xs ++ y ∷ []) i ≡ Some x
get_kept [] y i x e = absurd (none_some e)
get_kept (z ∷ xs) y zero x e = e
get_kept (z ∷ xs) y (suc i) x e = get_kept xs y i x e

one_more : {n m : ℕ} → n ≡ m → suc n ≡ suc m
one_more e = ap suc e

pub get_set : {X : Type 0} (xs : List X) (k : ℕ) (y : X) → k < length xs → slice_get (set xs k y) k ≡ Some y
get_set [] k y within = absurd (omega arith)
get_set (z ∷ xs) zero y within = refl
get_set (z ∷ xs) (suc k) y within = get_set xs k y (omega arith)

pub get_other : {X : Type 0} (xs : List X) (k i : ℕ) (y : X) → i ≢ k → slice_get (set xs k y) i ≡ slice_get xs i
get_other [] k i y other = refl
get_other (z ∷ xs) zero zero y other = absurd (other refl)
get_other (z ∷ xs) zero (suc i) y other = refl
get_other (z ∷ xs) (suc k) zero y other = refl
get_other (z ∷ xs) (suc k) (suc i) y other = get_other xs k i y (λ e. other (one_more e))

-- Nodes and arcs

pub one_node : (places : List Place) (p : ℕ) (a b : NodeId) → HasNode places p a → HasNode places p b → a ≡ b
one_node places p a b x y = sym x.2 ∙ ap (λ q. q.node) (some_same (sym x.1 ∙ y.1)) ∙ y.2

pub node_within : (places : List Place) (p : ℕ) (n : NodeId) → HasNode places p n → p < length places
node_within places p n h = slice_get_within places p h.0 h.1

pub node_at : (places : List Place) (p : ℕ) (d : Place) → p < length places → HasNode places p (get_or places p d).node
node_at places p d within = (get_or places p d, slice_get-get_or places p d within, refl)

pub node_is : (places : List Place) (p : ℕ) (d : Place) (n : NodeId) → HasNode places p n → (get_or places p d).node ≡ n
node_is places p d n h = ap (λ q. q.node) (get_or_from_slice_get places p h.0 d h.1) ∙ h.2

pub arc_at : (places : List Place) (p : ℕ) (d : Place) (arc : Arc) → p < length places →
    Contains (get_or places p d).arcs.items arc → HasArc places p arc
arc_at places p d arc within there = (get_or places p d, slice_get-get_or places p d within, there)

pub arc_is : (places : List Place) (p : ℕ) (d : Place) (arc : Arc) → HasArc places p arc →
    Contains (get_or places p d).arcs.items arc
arc_is places p d arc h = subst (λ q. Contains q.arcs.items arc) (sym (get_or_from_slice_get places p h.0 d h.1)) h.2

-- One place more, without arcs

pub nothing : {X : Type 0} (xs : List X) (x : X) → xs ≡ [] → ¬ Contains xs x
nothing xs x none there = absurd (let h : there.0 < 0 = subst (λ ys. there.0 < length ys) none there.1 in omega arith)

seated_once : (places : List Place) (new : Place) → AreOnce places → ((p : ℕ) → ¬ HasNode places p new.node) →
    AreOnce (places ++ new ∷ [])
seated_once places new once absent i j n x y = elim (get-pushed places new i x.0 x.1) [
  | inl a ↦ elim (get-pushed places new j y.0 y.1) [
    | inl b ↦ once i j n (x.0, a, x.2) (y.0, b, y.2)
    | inr b ↦ absurd (absent i (x.0, a, x.2 ∙ sym y.2 ∙ sym (ap (λ q. q.node) b.1)))
  ]
  | inr a ↦ elim (get-pushed places new j y.0 y.1) [
    | inl b ↦ absurd (absent j (y.0, b, y.2 ∙ sym x.2 ∙ sym (ap (λ q. q.node) a.1)))
    | inr b ↦ a.0 ∙ sym b.0
  ]
]

pub seated_new : (places : List Place) (new : Place) (n : NodeId) → AreOnce places →
    ((p : ℕ) → ¬ HasNode places p n) → new.node ≡ n → new.arcs.items ≡ [] →
    HasSeated places (places ++ new ∷ []) n (length places)
seated_new places new n once absent is none = record {
  there = (new, get-last places new, is);
  once = seated_once places new once (λ p h. absent p (h.0, h.1, h.2 ∙ is));
  kept = λ i m h. (h.0, get_kept places new i h.0 h.1, h.2);
  only = λ i m h. elim (get-pushed places new i h.0 h.1) [
    | inl before ↦ inl (h.0, before, h.2)
    | inr last ↦ inr (sym h.2 ∙ sym (ap (λ q. q.node) last.1) ∙ is)
  ];
  arcs = λ i arc h. (h.0, get_kept places new i h.0 h.1, h.2);
  same = λ i arc h. elim (get-pushed places new i h.0 h.1) [
    | inl before ↦ (h.0, before, h.2)
    | inr last ↦ absurd (nothing h.0.arcs.items arc (ap (λ q. q.arcs.items) (sym last.1) ∙ none) h.2)
  ];
}

pub seated_old : (places : List Place) (n : NodeId) (p : ℕ) → AreOnce places → HasNode places p n →
    HasSeated places places n p
seated_old places n p once there = record {
  there = there;
  once = once;
  kept = λ i m h. h;
  only = λ i m h. inl h;
  arcs = λ i arc h. h;
  same = λ i arc h. h;
}

-- One arc more at a place

gained_at : (places : List Place) (p : ℕ) (before after : Place) (arc : Arc) → slice_get places p ≡ Some before →
    after.node ≡ before.node → after.arcs.items ≡ before.arcs.items ++ arc ∷ [] →
    HasGained places (set places p after) p arc
gained_at places p before after arc stands node arcs =
    let here : slice_get (set places p after) p ≡ Some after =
    get_set places p after (slice_get_within places p before stands) in
    record {
      nodes = λ i m h. elim (cases_eq i p) [
        | inl e ↦ (
          after,
          subst (λ k. slice_get (set places p after) k ≡ Some after) (sym e) here,
          node ∙ ap (λ q. q.node) (some_same (sym stands ∙ subst (λ k. slice_get places k ≡ Some h.0) e h.1)) ∙ h.2,
        )
        | inr other ↦ (h.0, get_other places p i after other ∙ h.1, h.2)
      ];
      same = λ i m h. elim (cases_eq i p) [
        | inl e ↦ (
          before,
          subst (λ k. slice_get places k ≡ Some before) (sym e) stands,
          sym node ∙ ap (λ q. q.node) (some_same (sym here ∙
              subst (λ k. slice_get (set places p after) k ≡ Some h.0) e h.1)) ∙ h.2,
        )
        | inr other ↦ (h.0, sym (get_other places p i after other) ∙ h.1, h.2)
      ];
      gained = (after, here, subst (λ xs. Contains xs arc) (sym arcs) (Contains-push before.arcs.items arc));
      kept = λ i a h. elim (cases_eq i p) [
        | inl e ↦
            (let is : before ≡ h.0 = some_same (sym stands ∙ subst (λ k. slice_get places k ≡ Some h.0) e h.1) in (
              after,
              subst (λ k. slice_get (set places p after) k ≡ Some after) (sym e) here,
              subst (λ xs. Contains xs a) (sym arcs) (Contains-append_left before.arcs.items (arc ∷ []) a
                  (subst (λ q. Contains q.arcs.items a) (sym is) h.2)),
            ))
        | inr other ↦ (h.0, get_other places p i after other ∙ h.1, h.2)
      ];
      only = λ i a h. elim (cases_eq i p) [
        | inl e ↦
            (let is : after ≡ h.0 = some_same (sym here ∙
            subst (λ k. slice_get (set places p after) k ≡ Some h.0) e h.1) in
            elim (Contains-push_cases before.arcs.items arc a
            (subst (λ xs. Contains xs a) arcs (subst (λ q. Contains q.arcs.items a) (sym is) h.2))) [
              | inl old ↦ inl (before, subst (λ k. slice_get places k ≡ Some before) (sym e) stands, old)
              | inr new ↦ inr (e, sym new)
            ])
        | inr other ↦ inl (h.0, sym (get_other places p i after other) ∙ h.1, h.2)
      ];
    }

pub gained : (places : List Place) (p : ℕ) (d after : Place) (arc : Arc) → p < length places →
    after.node ≡ (get_or places p d).node → after.arcs.items ≡ (get_or places p d).arcs.items ++ arc ∷ [] →
    HasGained places (set places p after) p arc
gained places p d after arc within node arcs =
    gained_at places p (get_or places p d) after arc (slice_get-get_or places p d within) node arcs

-- the arcs of a place, as a loop reads them
pub read_arc : (places : List Place) (p : ℕ) (d : Place) (arcs : List Arc) (i : ℕ) (e : Arc) →
    arcs ≡ (get_or places p d).arcs.items → p < length places → i < length arcs → HasArc places p (get_or arcs i e)
read_arc places p d arcs i e same within below =
    arc_at places p d (get_or arcs i e) within
    (subst (λ xs. Contains xs (get_or arcs i e)) same (Contains-get_or arcs i e below))

-- what a loop over arcs reads past their end
abbrev pub no_arc : Arc
no_arc = record { row = 0; head = 0; link = record { 0 = 0 }; metric = 0 }

-- an arc that a loop reads leads within the places and rows
pub arc_read : {rows : ℕ} {places : List Place} (p : ℕ) (d : Place) {arcs : List Arc} (i : ℕ) → AreSound rows places →
    arcs ≡ (get_or places p d).arcs.items → p < length places → i < length arcs →
    IsArcWithin (length places) rows (get_or arcs i no_arc)
arc_read {rows} {places} p d {arcs} i sound same within below =
    sound.within p (get_or arcs i no_arc) (read_arc places p d arcs i no_arc same within below)
