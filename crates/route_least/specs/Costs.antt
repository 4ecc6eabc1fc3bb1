-- Costs of walks along arcs between places, and tables of them.
use Rattle.std.specs.Prelude.{◌≡◌, ℕ, ◌+◌, ◌*◌, ◌^◌, ◌<◌, ◌≤◌, List, Bool, false, Option, Some, None, slice_index_or, slice_set, sum_by}
use Rattle.ason_base.specs.declared.limits.TheConstants.{MOST_METRIC}
use Rattle.route_least.specs.declared.places.Arc.{Arc}

-- arcs along which one may go lead from the start to the place, at the cost
pub data Reach (MayGo : ℕ → Arc → Type 0) (start : ℕ) : ℕ → ℕ → Type 0 where
  Start : Reach MayGo start start 0
  Onward : (place : ℕ) (arc : Arc) (cost : ℕ) → MayGo place arc → Reach MayGo start place cost →
      Reach MayGo start arc.head (cost + arc.metric)

-- the table's cost of a place, where it has one
abbrev pub cost_at : List (Option ℕ) → ℕ → Option ℕ
cost_at costs place = slice_index_or costs place None

-- whether the place is marked
abbrev pub is_place_marked : List Bool → ℕ → Bool
is_place_marked marks place = slice_index_or marks place false

-- arcs lead to each place that has a cost, at that cost
abbrev pub AreAttained : (ℕ → Arc → Type 0) → ℕ → List (Option ℕ) → Type 0
AreAttained MayGo start costs = (place cost : ℕ) → cost_at costs place ≡ Some cost → Reach MayGo start place cost

-- no more than the metric above this cost is that of the arc's head
abbrev pub IsAtMostOver : List (Option ℕ) → ℕ → Arc → Type 0
IsAtMostOver costs cost arc = (over : ℕ) × (cost_at costs arc.head ≡ Some over) × (over ≤ cost + arc.metric)

-- no more than the metric above the cost of the place is that of the arc's head
abbrev pub IsArcSettled : List (Option ℕ) → ℕ → Arc → Type 0
IsArcSettled costs place arc = (cost : ℕ) → cost_at costs place ≡ Some cost → IsAtMostOver costs cost arc

-- each arc is settled that leads on from a place of the set
abbrev pub AreArcsSettled : (ℕ → Arc → Type 0) → (ℕ → Type 0) → List (Option ℕ) → Type 0
AreArcsSettled MayGo At costs = (place : ℕ) (arc : Arc) → MayGo place arc → At place → IsArcSettled costs place arc

-- 1 for a place that has a cost
abbrev pub reached : Option ℕ → ℕ
reached None = 0
reached (Some cost) = 1

-- the greatest metric for each place that has a cost, but one, is at least each cost
abbrev pub AreBounded : List (Option ℕ) → Type 0
AreBounded costs = (place cost : ℕ) → cost_at costs place ≡ Some cost →
    cost + MOST_METRIC ≤ MOST_METRIC * sum_by reached costs

-- the head's cost falls to that over the arc from a place of this cost
pub record IsLowered (arc : Arc) (cost : ℕ) (old new : List (Option ℕ)) : Type 0 where
  pub lower : (over : ℕ) → cost_at old arc.head ≡ Some over → cost + arc.metric < over
  pub after : new ≡ slice_set old arc.head (Some (cost + arc.metric))

-- how far the table can still fall: a place without a cost stands above every cost
abbrev pub height : Option ℕ → ℕ
height None = 2 ^ 32
height (Some cost) = cost

-- the table has just the places to which arcs lead, each with the least cost
pub record AreLeast (MayGo : ℕ → Arc → Type 0) (start : ℕ) (costs : List (Option ℕ)) : Type 0 where
  pub zero : cost_at costs start ≡ Some 0
  pub attained : AreAttained MayGo start costs
  pub settled : (place : ℕ) (arc : Arc) → MayGo place arc → IsArcSettled costs place arc
  pub least : (place cost : ℕ) → Reach MayGo start place cost → (least : ℕ) × (cost_at costs place ≡ Some least) ×
      (least ≤ cost)

-- each cost is below 2^24
abbrev pub AreSmall : List (Option ℕ) → Type 0
AreSmall costs = (place cost : ℕ) → cost_at costs place ≡ Some cost → cost < 16777216

-- the table stays one of attained costs, which never rise
pub record IsCostStep (MayGo : ℕ → Arc → Type 0) (old new : List (Option ℕ)) : Type 0 where
  pub bounded : AreBounded old → AreBounded new
  pub attained : (start : ℕ) → AreAttained MayGo start old → AreAttained MayGo start new
  pub zero : (start : ℕ) → cost_at old start ≡ Some 0 → cost_at new start ≡ Some 0
