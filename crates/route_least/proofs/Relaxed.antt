-- Costs lowered along the arcs of one place, arc by arc.
use Rattle.std.proofs.{Common.{◌≡◌, ◌≢◌, inl, inr, ℕ, ◌+◌, ◌<◌, ◌≤◌, List, [], Option, Some, None, length, get_or, set, take, Bool, true, false, sum_by, refl, sym, ◌∙◌, subst, arith}, lemmas.Bool.cases_eq, lemmas.List.{get_or-set_same, take_more}, lemmas.List.Elements.Contains-push_cases}
use Rattle.std.specs.List.{Contains}
use Rattle.ason_base.specs.{declared.limits.TheConstants.MOST_METRIC, declared.ids.NodeId.NodeId}
use Rattle.route_least.specs.{declared.places.Arc.Arc, declared.places.Place.Place, Costs.{cost_at, height, is_place_marked, AreBounded, AreArcsSettled, IsAtMostOver, IsLowered, IsCostStep}, Network.{Goes, IsFree}}
use Rattle.route_least.proofs.{Lowered.{attained_after, bounded_after, falls_after, kept_cost, no_step, over_after, settled_after, unmarked_before, zero_after}, PlaceLists.{arc_is, nothing, some_same}}

-- the places but one that aren't marked
abbrev pub IsOther : ℕ → List Bool → ℕ → Type 0
IsOther place marks p = (p ≢ place) × (is_place_marked marks p ≡ false)

-- a change was made, or none
pub falls_more : (changed : Bool) (before after new : List (Option ℕ)) →
    (changed ≡ true → sum_by height after < sum_by height before) → (changed ≡ false → after ≡ before) →
    sum_by height new < sum_by height after → sum_by height new < sum_by height before
falls_more true before after new falls kept lower = omega (arith, falls refl)
falls_more false before after new falls kept lower = subst (λ t. sum_by height new < sum_by height t) (kept refl) lower

module _ (places : List Place) (closed : List Bool) (banned : List NodeId) (place cost : ℕ)
    (before : List (Option ℕ)) (off : List Bool) where
  -- after some of the arcs of the place
  pub record IsRelaxing (done : List Arc) (after : List (Option ℕ)) (on : List Bool) (changed : Bool) : Type 0 where
    pub here : cost_at after place ≡ Some cost
    pub bounded : AreBounded after
    pub step : IsCostStep (Goes places closed banned) before after
    pub rest : AreArcsSettled (Goes places closed banned) (IsOther place off) before →
        AreArcsSettled (Goes places closed banned) (IsOther place on) after
    pub over : (arc : Arc) → Contains done arc → IsFree places closed banned arc → IsAtMostOver after cost arc
    pub kept : changed ≡ false → (after ≡ before) × (on ≡ off)
    pub falls : changed ≡ true → sum_by height after < sum_by height before

  pub relaxing : cost_at before place ≡ Some cost → AreBounded before → IsRelaxing [] before off false
  relaxing here bounded = record {
    here = here;
    bounded = bounded;
    step = no_step (Goes places closed banned) before;
    rest = λ h. h;
    over = λ arc there free. absurd (nothing [] arc refl there);
    kept = λ e. (refl, refl);
    falls = λ e. absurd (cc (e));
  }

  pub relaxed : (arcs : List Arc) (i : ℕ) (d : Arc) (after new : List (Option ℕ)) (on : List Bool) (changed : Bool) →
      i < length arcs → IsRelaxing (take i arcs) after on changed →
      Goes places closed banned place (get_or arcs i d) → (get_or arcs i d).head < length after →
      (get_or arcs i d).head < length on → (get_or arcs i d).metric ≤ MOST_METRIC → cost < 16777216 →
      IsLowered (get_or arcs i d) cost after new →
      IsRelaxing (take (i + 1) arcs) new (set on (get_or arcs i d).head true) true
  relaxed arcs i d after new on changed within r goes inside marks metric small low =
      let arc = get_or arcs i d in
      record {
        here = kept_cost arc cost after new low inside place r.here;
        bounded = bounded_after arc cost after new low inside place r.here metric r.bounded;
        step = record {
          bounded = λ h. bounded_after arc cost after new low inside place r.here metric r.bounded;
          attained = λ start h. attained_after arc cost after new low inside
              (Goes places closed banned) start place r.here goes (r.step.attained start h);
          zero = λ start h. zero_after arc cost after new low inside start (r.step.zero start h);
        };
        rest = λ settled p other may at.
            (let was = unmarked_before on arc.head p marks at.1 in
            settled_after arc cost after new low inside p other was.0 (r.rest settled p other may (at.0, was.1)));
        over = λ other there free.
            elim (Contains-push_cases (take i arcs) arc other
            (subst (λ xs. Contains xs other) (take_more arcs i d within) there)) [
              | inl earlier ↦ over_after arc cost after new low inside cost other (r.over other earlier free)
              | inr same ↦ subst (IsAtMostOver new cost) same (at_head arc after new low inside)
            ];
        kept = λ e. absurd (cc (e));
        falls = λ e. falls_more changed before after new r.falls (λ k. (r.kept k).0)
            (falls_after arc cost after new low inside small metric);
      }
    where
      at_head : (arc : Arc) (after new : List (Option ℕ)) → IsLowered arc cost after new → arc.head < length after →
          IsAtMostOver new cost arc
      at_head arc after new low inside = (
        cost + arc.metric,
        rw low.after (get_or-set_same after arc.head (Some (cost + arc.metric)) None inside),
        omega arith,
      )

  pub relaxed_none : (arcs : List Arc) (i : ℕ) (d : Arc) (after new : List (Option ℕ)) (on : List Bool)
      (changed : Bool) → i < length arcs → IsRelaxing (take i arcs) after on changed → new ≡ after →
      (IsFree places closed banned (get_or arcs i d) → IsAtMostOver after cost (get_or arcs i d)) →
      IsRelaxing (take (i + 1) arcs) new on changed
  relaxed_none arcs i d after new on changed within r same over =
      subst (λ t. IsRelaxing (take (i + 1) arcs) t on changed) (sym same)
      (record {
        here = r.here;
        bounded = r.bounded;
        step = r.step;
        rest = r.rest;
        over = λ other there free.
            elim (Contains-push_cases (take i arcs) (get_or arcs i d) other
            (subst (λ xs. Contains xs other) (take_more arcs i d within) there)) [
              | inl earlier ↦ r.over other earlier free
              | inr e ↦ subst (IsAtMostOver after cost) e (over (subst (IsFree places closed banned) (sym e) free))
            ];
        kept = r.kept;
        falls = r.falls;
      })

  -- after all of them
  pub all_relaxed : (d : Place) (after : List (Option ℕ)) (on : List Bool) (changed : Bool) →
      IsRelaxing (get_or places place d).arcs.items after on changed →
      AreArcsSettled (Goes places closed banned) (IsOther place off) before →
      AreArcsSettled (Goes places closed banned) (λ p. is_place_marked on p ≡ false) after
  all_relaxed d after on changed r settled p arc goes unmarked = elim (cases_eq p place) [
    | inl e ↦ (λ c has.
        (let same : cost ≡ c = some_same (sym r.here ∙ subst (λ k. cost_at after k ≡ Some c) e has) in
        subst (λ x. IsAtMostOver after x arc) same (r.over arc
        (arc_is places place d arc (subst (λ k. Goes places closed banned k arc) e goes).0) goes.1)))
    | inr other ↦ r.rest settled p arc goes (other, unmarked)
  ]
