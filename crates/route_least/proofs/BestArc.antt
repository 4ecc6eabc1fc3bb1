-- The arc of the least link among those that lead on, as arcs are seen, and traces as steps are added.
use Rattle.std.proofs.{Common.{◌≡◌, inl, inr, ℕ, ◌+◌, ◌-◌, ◌<◌, ◌≤◌, List, [], ◌∷◌, ◌++◌, Bool, true, Option, Some, None, MatchOption, length, get_or, take, refl, sym, ◌∙◌, ap, subst, arith}, lemmas.List.take_more, lemmas.List.Elements.{Contains-append_left, Contains-push, Contains-push_cases}}
use Rattle.std.specs.List.{Contains}
use Rattle.ason_base.specs.declared.steps.Step.{Step}
use Rattle.route_least.specs.{declared.places.Arc.Arc, declared.places.Place.Place, Costs.{cost_at, is_place_marked, AreSmall}, Marking.Crosses, Trace.{AreMarked, FollowsArc, IsLeastArc, IsLeading, IsTight, IsTrace, ArcLeadsOn}}
use Rattle.route_least.proofs.PlaceLists.{arc_at, arc_is, nothing, some_same}

at_least : (arc o : Arc) → (arc.link.0 < o.link.0 → ⊥) → o.link.0 ≤ arc.link.0
at_least arc o not = grind arith

module _ (closed : List Bool) (costs : List (Option ℕ)) (marks : List Bool) (cost : ℕ) where
  pub record IsBestSeen (seen : List Arc) (arc : Arc) : Type 0 where
    pub known : Contains seen arc
    pub leads : IsLeading closed costs marks cost arc
    pub best : (other : Arc) → Contains seen other → IsLeading closed costs marks cost other → arc.link.0 ≤ other.link.0

  -- the best of the arcs that were seen, if one of them leads on
  abbrev pub IsBestOfArcs : List Arc → Option Arc → Type 0
  IsBestOfArcs seen best = MatchOption best ((arc : Arc) → Contains seen arc → ¬ IsLeading closed costs marks cost arc)
      (λ arc. IsBestSeen seen arc)

  pub none_best : IsBestOfArcs [] None
  none_best = λ arc known. absurd (nothing [] arc refl known)

  better : (seen : List Arc) (arc : Arc) (best : Option Arc) → IsBestOfArcs seen best →
      IsLeading closed costs marks cost arc → MatchOption best (Unit {0}) (λ o. arc.link.0 < o.link.0) →
      IsBestOfArcs (seen ++ arc ∷ []) (Some arc)
  better seen arc None none leads less = record {
    known = Contains-push seen arc;
    leads = leads;
    best = λ other known also. elim (Contains-push_cases seen arc other known) [
      | inl before ↦ absurd (none other before also)
      | inr same ↦ subst (λ x. arc.link.0 ≤ x.link.0) same (omega arith)
    ];
  }
  better seen arc (Some o) best leads less = record {
    known = Contains-push seen arc;
    leads = leads;
    best = λ other known also. elim (Contains-push_cases seen arc other known) [
      | inl before ↦ (let h : o.link.0 ≤ other.link.0 =
          best.best other before also in let k : arc.link.0 < o.link.0 = less in omega arith)
      | inr same ↦ subst (λ x. arc.link.0 ≤ x.link.0) same (omega arith)
    ];
  }

  no_better : (seen : List Arc) (arc : Arc) (best : Option Arc) → IsBestOfArcs seen best →
      (IsLeading closed costs marks cost arc → MatchOption best (Unit {0}) (λ o. arc.link.0 < o.link.0) → ⊥) →
      IsBestOfArcs (seen ++ arc ∷ []) best
  no_better seen arc None none not = λ other known leads. elim (Contains-push_cases seen arc other known) [
    | inl before ↦ none other before leads
    | inr same ↦ not (subst (IsLeading closed costs marks cost) (sym same) leads) tt
  ]
  no_better seen arc (Some o) best not = record {
    known = Contains-append_left seen (arc ∷ []) o best.known;
    leads = best.leads;
    best = λ other known also. elim (Contains-push_cases seen arc other known) [
      | inl before ↦ best.best other before also
      | inr same ↦ (let h : o.link.0 ≤ arc.link.0 =
          at_least arc o (not (subst (IsLeading closed costs marks cost) (sym same) also)) in subst
          (λ x. o.link.0 ≤ x.link.0) same h)
    ];
  }

  pub better_at : (arcs : List Arc) (i : ℕ) (d : Arc) (best : Option Arc) → i < length arcs →
      IsBestOfArcs (take i arcs) best → IsLeading closed costs marks cost (get_or arcs i d) →
      MatchOption best (Unit {0}) (λ o. (get_or arcs i d).link.0 < o.link.0) →
      IsBestOfArcs (take (i + 1) arcs) (Some (get_or arcs i d))
  better_at arcs i d best within so_far leads less =
      subst (λ seen. IsBestOfArcs seen (Some (get_or arcs i d))) (sym (take_more arcs i d within))
      (better (take i arcs) (get_or arcs i d) best so_far leads less)

  pub no_better_at : (arcs : List Arc) (i : ℕ) (d : Arc) (best : Option Arc) → i < length arcs →
      IsBestOfArcs (take i arcs) best → (IsLeading closed costs marks cost (get_or arcs i d) →
      MatchOption best (Unit {0}) (λ o. (get_or arcs i d).link.0 < o.link.0) → ⊥) →
      IsBestOfArcs (take (i + 1) arcs) best
  no_better_at arcs i d best within so_far not =
      subst (λ seen. IsBestOfArcs seen best) (sym (take_more arcs i d within))
      (no_better (take i arcs) (get_or arcs i d) best so_far not)

module _ (places : List Place) (closed : List Bool) (costs : List (Option ℕ)) (marks : List Bool) (place cost : ℕ)
    (d : Place) (within : place < length places) (has : cost_at costs place ≡ Some cost) where
  leading_leads : (arc : Arc) → Contains (get_or places place d).arcs.items arc →
      IsLeading closed costs marks cost arc → ArcLeadsOn (Crosses places closed) costs marks place arc
  leading_leads arc known leads = record {
    goes = (arc_at places place d arc within known, leads.row);
    tight = record { cost = cost; tail = has; head = leads.head };
    marked = leads.marked;
  }

  leads_leading : (arc : Arc) → ArcLeadsOn (Crosses places closed) costs marks place arc →
      IsLeading closed costs marks cost arc
  leads_leading arc leads =
      let same : leads.tight.cost ≡ cost = some_same (sym leads.tight.tail ∙ has) in
      record {
        row = leads.goes.1;
        marked = leads.marked;
        head = leads.tight.head ∙ ap (λ c. Some (c + arc.metric)) same;
      }

  -- the best arc of the place
  pub best_of_all : (best : Option Arc) → IsBestOfArcs closed costs marks cost (get_or places place d).arcs.items best →
      MatchOption best ((arc : Arc) → ¬ ArcLeadsOn (Crosses places closed) costs marks place arc)
      (λ arc. IsLeastArc (Crosses places closed) costs marks place arc)
  best_of_all None none = λ arc leads. none arc (arc_is places place d arc leads.goes.0) (leads_leading arc leads)
  best_of_all (Some arc) best = record {
    leads = leading_leads arc best.known best.leads;
    best = λ other leads. best.best other (arc_is places place d other leads.goes.0) (leads_leading other leads);
  }

-- Traces

pub trace_push : (MayGo : ℕ → Arc → Type 0) (costs : List (Option ℕ)) (marks : List Bool) (places : List Place)
    (from place : ℕ) (steps : List Step) (step : Step) (arc : Arc) →
    IsTrace MayGo costs marks places from place steps → FollowsArc MayGo costs marks places place step arc →
    IsTrace MayGo costs marks places from arc.head (steps ++ step ∷ [])
trace_push MayGo costs marks places from place [] step arc same follows =
    (arc, subst (λ p. FollowsArc MayGo costs marks places p step arc) (sym same) follows, refl)
trace_push MayGo costs marks places from place (s ∷ steps) step arc trace follows =
    (trace.0, trace.1, trace_push MayGo costs marks places trace.0.head place steps step arc trace.2 follows)

-- how far costs can still rise
abbrev pub rise : Option ℕ → ℕ
rise None = 0
rise (Some cost) = 16777216 - cost

pub rise_falls : (costs : List (Option ℕ)) (place : ℕ) (arc : Arc) → AreSmall costs → IsTight costs place arc →
    1 ≤ arc.metric → rise (cost_at costs arc.head) < rise (cost_at costs place)
rise_falls costs place arc small tight positive =
    let h : tight.cost < 16777216 = small place tight.cost tight.tail in
    rw (tight.head, tight.tail) (omega arith)

pub leads_there : (MayGo : ℕ → Arc → Type 0) (costs : List (Option ℕ)) (marks : List Bool) (place to : ℕ) →
    AreMarked MayGo costs to marks → is_place_marked marks place ≡ true → (place ≡ to → ⊥) → (arc : Arc) ×
    ArcLeadsOn MayGo costs marks place arc
leads_there MayGo costs marks place to are on other =
    elim (are.onward place on) [ inl e ↦ absurd (other e) | inr leads ↦ leads ]
