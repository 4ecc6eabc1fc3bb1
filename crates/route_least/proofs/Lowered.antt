-- What lowering one cost leaves of a table.
use Rattle.std.proofs.{Common.{◌≡◌, ◌≢◌, ◌⊎◌, inl, inr, ℕ, ◌+◌, ◌*◌, ◌^◌, ◌<◌, ◌≤◌, List, [], ◌∷◌, Option, Some, None, length, Bool, true, false, set, sum_by, refl, sym, ◌∙◌, subst, arith}, lemmas.Bool.cases_eq, lemmas.List.Sums.{sum_by-set, sum_by-cons}, lemmas.List.{get_or-set_same, get_or-set_other}}
use Rattle.ason_base.specs.declared.limits.TheConstants.{MOST_METRIC, MOST_NODES}
use Rattle.route_least.specs.{declared.places.Arc.Arc, Costs.{cost_at, height, is_place_marked, reached, AreAttained, AreBounded, AreSmall, IsAtMostOver, IsLowered, IsArcSettled, IsCostStep, Reach}, Costs.Reach.Onward}
use Rattle.route_least.proofs.PlaceLists.{some_same}

pub reached-le-length : (costs : List (Option ℕ)) → sum_by reached costs ≤ length costs
reached-le-length [] = omega arith
reached-le-length (None ∷ costs) = omega (arith, reached-le-length costs, sum_by-cons reached None costs)
reached-le-length (Some c ∷ costs) = omega (arith, reached-le-length costs, sum_by-cons reached (Some c) costs)

pub small : (costs : List (Option ℕ)) → AreBounded costs → length costs ≤ MOST_NODES → AreSmall costs
small costs bounded few place cost has =
    let h : cost + MOST_METRIC ≤ MOST_METRIC * sum_by reached costs = bounded place cost has in
    omega (arith, reached-le-length costs)

module _ (arc : Arc) (cost : ℕ) (old new : List (Option ℕ)) (low : IsLowered arc cost old new)
    (within : arc.head < length old) where
  -- a place of the new table
  pub new_cost : (place : ℕ) → ((place ≡ arc.head) × (cost_at new place ≡ Some (cost + arc.metric))) ⊎
      ((place ≢ arc.head) × (cost_at new place ≡ cost_at old place))
  new_cost place =
      elim (cases_eq place arc.head) [
        | inl same ↦ inl (
          same,
          rw (low.after, same)
              (get_or-set_same old arc.head (Some (cost + arc.metric)) None within),
        )
        | inr other ↦ inr (
          other,
          rw low.after (get_or-set_other old arc.head place
              (Some (cost + arc.metric)) None other),
        )
      ]

  sum_reached : sum_by reached new + reached (cost_at old arc.head) ≡ sum_by reached old + 1
  sum_reached = rw low.after (sum_by-set reached old arc.head (Some (cost + arc.metric)) None within)

  sum_height : sum_by height new + height (cost_at old arc.head) ≡ sum_by height old + (cost + arc.metric)
  sum_height = rw low.after (sum_by-set height old arc.head (Some (cost + arc.metric)) None within)

  -- the place that is lowered is counted once more, if it had no cost
  bounded_head : (least now : ℕ) (o : Option ℕ) → cost + MOST_METRIC ≤ MOST_METRIC * least → arc.metric ≤ MOST_METRIC →
      ((over : ℕ) → o ≡ Some over → cost + arc.metric < over) →
      ((over : ℕ) → o ≡ Some over → over + MOST_METRIC ≤ MOST_METRIC * least) → now + reached o ≡ least + 1 →
      ((cost + arc.metric) + MOST_METRIC ≤ MOST_METRIC * now) × (least ≤ now)
  bounded_head least now None h small lower bounds sum = (omega arith, omega arith)
  bounded_head least now (Some over) h small lower bounds sum =
      let a : cost + arc.metric < over = lower over refl in
      let b : over + MOST_METRIC ≤ MOST_METRIC * least = bounds over refl in
      let e : now ≡ least = omega arith in
      (rw e (omega arith), omega arith)

  pub bounded_after : (from : ℕ) → cost_at old from ≡ Some cost → arc.metric ≤ MOST_METRIC → AreBounded old →
      AreBounded new
  bounded_after from here metric bounded place c has =
      let parts = bounded_head (sum_by reached old) (sum_by reached new) (cost_at old arc.head)
      (bounded from cost here) metric low.lower (bounded arc.head) sum_reached in
      elim (new_cost place) [
        | inl at ↦ (let e : cost + arc.metric ≡ c = some_same (sym at.1 ∙ has) in rw (sym e) parts.0)
        | inr other ↦ (let h : c + MOST_METRIC ≤ MOST_METRIC * sum_by reached old =
            bounded place c (sym other.1 ∙ has) in omega (arith, parts.1))
      ]

  pub attained_after : (MayGo : ℕ → Arc → Type 0) (start from : ℕ) → cost_at old from ≡ Some cost → MayGo from arc →
      AreAttained MayGo start old → AreAttained MayGo start new
  attained_after MayGo start from here goes attained place c has =
      elim (new_cost place) [
        | inl at ↦ (let e : cost + arc.metric ≡ c = some_same (sym at.1 ∙ has) in
            subst (λ x. Reach MayGo start place x) e (subst (λ p. Reach MayGo start p (cost + arc.metric)) (sym at.0)
            (Onward from arc cost goes (attained from cost here))))
        | inr other ↦ attained place c (sym other.1 ∙ has)
      ]

  pub zero_after : (start : ℕ) → cost_at old start ≡ Some 0 → cost_at new start ≡ Some 0
  zero_after start zero =
      elim (new_cost start) [
        | inl at ↦ absurd (let h : cost + arc.metric < 0 =
            low.lower 0 (subst (λ p. cost_at old p ≡ Some 0) at.0 zero) in omega arith)
        | inr other ↦ other.1 ∙ zero
      ]

  height_falls : (o : Option ℕ) (before after : ℕ) → after + height o ≡ before + (cost + arc.metric) →
      cost + arc.metric < 2 ^ 32 → ((least : ℕ) → o ≡ Some least → cost + arc.metric < least) → after < before
  height_falls None before after sum fits lower = omega arith
  height_falls (Some least) before after sum fits lower = omega (arith, lower least refl)

  pub falls_after : cost < 16777216 → arc.metric ≤ MOST_METRIC → sum_by height new < sum_by height old
  falls_after small metric = height_falls (cost_at old arc.head) (sum_by height old) (sum_by height new) sum_height
      (omega arith) low.lower

  -- costs fall at the head alone
  pub over_after : (c : ℕ) (other : Arc) → IsAtMostOver old c other → IsAtMostOver new c other
  over_after c other over =
      elim (new_cost other.head) [
        | inl at ↦ (
          cost + arc.metric,
          at.1,
          (let h : cost + arc.metric < over.0 =
              low.lower over.0 (subst (λ p. cost_at old p ≡ Some over.0) at.0 over.1) in let k : over.0 ≤
              c + other.metric = over.2 in omega arith),
        )
        | inr apart ↦ (over.0, apart.1 ∙ over.1, over.2)
      ]

  pub settled_after : (place : ℕ) (other : Arc) → place ≢ arc.head → IsArcSettled old place other →
      IsArcSettled new place other
  settled_after place other apart settled c has =
      elim (new_cost place) [
        | inl at ↦ absurd (apart at.0)
        | inr same ↦ over_after c other (settled c (sym same.1 ∙ has))
      ]

  -- the cost of the place itself stays
  pub kept_cost : (from : ℕ) → cost_at old from ≡ Some cost → cost_at new from ≡ Some cost
  kept_cost from here =
      elim (new_cost from) [
        | inl at ↦ absurd (let h : cost + arc.metric < cost =
            low.lower cost (subst (λ p. cost_at old p ≡ Some cost) at.0 here) in omega arith)
        | inr same ↦ same.1 ∙ here
      ]

  pub apart : (from : ℕ) → cost_at old from ≡ Some cost → from ≢ arc.head
  apart from here e = absurd (let h : cost + arc.metric < cost =
      low.lower cost (subst (λ p. cost_at old p ≡ Some cost) e here) in omega arith)

-- Marks

pub marked_same : (marks : List Bool) (p : ℕ) (b : Bool) → p < length marks → is_place_marked (set marks p b) p ≡ b
marked_same marks p b within = get_or-set_same marks p b false within

pub marked_other : (marks : List Bool) (p q : ℕ) (b : Bool) → q ≢ p →
    is_place_marked (set marks p b) q ≡ is_place_marked marks q
marked_other marks p q b other = get_or-set_other marks p q b false other

-- a place that isn't marked after another was
pub unmarked_before : (marks : List Bool) (p q : ℕ) → p < length marks → is_place_marked (set marks p true) q ≡ false →
    (q ≢ p) × (is_place_marked marks q ≡ false)
unmarked_before marks p q within off = elim (cases_eq q p) [
  | inl e ↦ absurd (let on = marked_same marks p true within in let h =
      subst (λ k. is_place_marked (set marks p true) k ≡ false) e off in cc (on, h))
  | inr other ↦ (other, sym (marked_other marks p q true other) ∙ off)
]

-- Steps

pub no_step : (MayGo : ℕ → Arc → Type 0) (costs : List (Option ℕ)) → IsCostStep MayGo costs costs
no_step MayGo costs = record { bounded = λ h. h; attained = λ start h. h; zero = λ start h. h }

pub then_step : (MayGo : ℕ → Arc → Type 0) (a b c : List (Option ℕ)) → IsCostStep MayGo a b → IsCostStep MayGo b c →
    IsCostStep MayGo a c
then_step MayGo a b c first second = record {
  bounded = λ h. second.bounded (first.bounded h);
  attained = λ start h. second.attained start (first.attained start h);
  zero = λ start h. second.zero start (first.zero start h);
}
