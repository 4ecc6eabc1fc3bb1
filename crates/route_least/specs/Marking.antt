-- Marking the places from which tight arcs lead to the end, one place after the other.
use Rattle.std.specs.{Prelude.{◌≡◌, ◌⊎◌, ◌≤◌, ℕ, ◌+◌, ◌<◌, List, All, Bool, true, false, Option, Some, length, sum_by}, List.Contains}
use Rattle.route_least.specs.{declared.places.Arc.Arc, declared.places.Place.Place, Costs.{cost_at, is_place_marked}, Network.HasArc, Trace.ArcLeadsOn}

-- the arc from the place is of a row that isn't closed
abbrev pub Crosses : List Place → List Bool → ℕ → Arc → Type 0
Crosses places closed p arc = HasArc places p arc × (is_place_marked closed arc.row ≡ false)

-- the arc's row isn't closed, and along it, the other way, costs rise by the metric to this cost
pub record ComesBy (closed : List Bool) (costs : List (Option ℕ)) (cost : ℕ) (arc : Arc) : Type 0 where
  pub row : is_place_marked closed arc.row ≡ false
  pub before : ℕ
  pub has : cost_at costs arc.head ≡ Some before
  pub rise : before + arc.metric ≡ cost

-- from each marked place but the end a tight arc leads to a marked one
abbrev pub AreOnward : (ℕ → Arc → Type 0) → List (Option ℕ) → ℕ → List Bool → Type 0
AreOnward MayGo costs end marks = (p : ℕ) → is_place_marked marks p ≡ true →
    (p ≡ end) ⊎ ((arc : Arc) × ArcLeadsOn MayGo costs marks p arc)

-- 1 for a place that isn't marked
abbrev pub unmarked : Bool → ℕ
unmarked true = 0
unmarked false = 1

-- each place that is newly marked waits
pub record HasMarked (old new : List Bool) (before after : List ℕ) : Type 0 where
  pub kept : (p : ℕ) → is_place_marked old p ≡ true → is_place_marked new p ≡ true
  pub fresh : (p : ℕ) → is_place_marked new p ≡ true → (is_place_marked old p ≡ true) ⊎ Contains after p
  pub waiting : (p : ℕ) → Contains before p → Contains after p
  pub marked : ((p : ℕ) → Contains before p → is_place_marked old p ≡ true) → (p : ℕ) → Contains after p →
      is_place_marked new p ≡ true
  pub within : All (λ p. p < length old) before → All (λ p. p < length old) after
  pub fewer : sum_by unmarked new + length after ≤ sum_by unmarked old + length before

-- the marks so far: where tight arcs lead to a marked place, that place waits or they come from a marked one
pub record AreMarking (MayGo : ℕ → Arc → Type 0) (costs : List (Option ℕ)) (to : ℕ) (marks : List Bool)
    (waiting : List ℕ) : Type 0 where
  pub end : is_place_marked marks to ≡ true
  pub onward : AreOnward MayGo costs to marks
  pub closed : (p : ℕ) (arc : Arc) → ArcLeadsOn MayGo costs marks p arc →
      (is_place_marked marks p ≡ true) ⊎ Contains waiting arc.head
  pub marked : (p : ℕ) → Contains waiting p → is_place_marked marks p ≡ true
  pub within : All (λ p. p < length marks) waiting
