-- Routes that follow, from place to place, the arc of the least link among those that are tight and lead to the end.
use Rattle.std.specs.{Prelude.{◌≡◌, ◌⊎◌, ℕ, ◌+◌, ◌<◌, ◌≤◌, List, [], ◌∷◌, Bool, true, false, Option, Some, MatchOption}, List.{AllPairs, Contains}}
use Rattle.ason_base.specs.{declared.ids.NodeId.NodeId, declared.steps.Step.Step}
use Rattle.route_least.specs.{declared.places.Arc.Arc, declared.places.Place.Place, Costs.{cost_at, is_place_marked}, Network.HasNode}

-- along the arc from the place the cost rises just by the metric
pub record IsTight (costs : List (Option ℕ)) (place : ℕ) (arc : Arc) : Type 0 where
  pub cost : ℕ
  pub tail : cost_at costs place ≡ Some cost
  pub head : cost_at costs arc.head ≡ Some (cost + arc.metric)

-- an arc that is tight leads on to a marked place
pub record ArcLeadsOn (MayGo : ℕ → Arc → Type 0) (costs : List (Option ℕ)) (marks : List Bool) (place : ℕ)
    (arc : Arc) : Type 0 where
  pub goes : MayGo place arc
  pub tight : IsTight costs place arc
  pub marked : is_place_marked marks arc.head ≡ true

-- just the places are marked from which tight arcs lead to the end
pub record AreMarked (MayGo : ℕ → Arc → Type 0) (costs : List (Option ℕ)) (to : ℕ) (marks : List Bool) : Type 0 where
  pub end : is_place_marked marks to ≡ true
  pub closed : (place : ℕ) (arc : Arc) → ArcLeadsOn MayGo costs marks place arc → is_place_marked marks place ≡ true
  pub onward : (place : ℕ) → is_place_marked marks place ≡ true →
      (place ≡ to) ⊎ ((arc : Arc) × ArcLeadsOn MayGo costs marks place arc)

-- of those that lead on from the place this arc has the least link
pub record IsLeastArc (MayGo : ℕ → Arc → Type 0) (costs : List (Option ℕ)) (marks : List Bool) (place : ℕ)
    (arc : Arc) : Type 0 where
  pub leads : ArcLeadsOn MayGo costs marks place arc
  pub best : (other : Arc) → ArcLeadsOn MayGo costs marks place other → arc.link.0 ≤ other.link.0

-- the best of those arcs, or none where none leads on
abbrev pub IsBestArc : (ℕ → Arc → Type 0) → List (Option ℕ) → List Bool → ℕ → Option Arc → Type 0
IsBestArc MayGo costs marks place found =
    MatchOption found ((arc : Arc) → ArcLeadsOn MayGo costs marks place arc → ⊥) (IsLeastArc MayGo costs marks place)

pub record FollowsArc (MayGo : ℕ → Arc → Type 0) (costs : List (Option ℕ)) (marks : List Bool) (places : List Place)
    (place : ℕ) (step : Step) (arc : Arc) : Type 0 where
  pub best : IsLeastArc MayGo costs marks place arc
  pub node : HasNode places place step.node
  pub link : step.link ≡ arc.link

-- the steps lead from the one place to the other over best arcs
abbrev pub IsTrace : (ℕ → Arc → Type 0) → List (Option ℕ) → List Bool → List Place → ℕ → ℕ → List Step → Type 0
IsTrace MayGo costs marks places from to [] = from ≡ to
IsTrace MayGo costs marks places from to (step ∷ steps) = (arc : Arc) ×
    FollowsArc MayGo costs marks places from step arc × IsTrace MayGo costs marks places arc.head to steps

-- the steps are a trace inside the marked places
pub record IsTraced (MayGo : ℕ → Arc → Type 0) (costs : List (Option ℕ)) (places : List Place) (from to : ℕ)
    (steps : List Step) : Type 0 where
  pub marks : List Bool
  pub marked : AreMarked MayGo costs to marks
  pub trace : IsTrace MayGo costs marks places from to steps

-- the entries are the nodes of the places that have a cost, with that cost
pub record AreEntries (places : List Place) (costs : List (Option ℕ)) (entries : List (NodeId × ℕ)) : Type 0 where
  pub rising : AllPairs (λ x y. x.0.0 < y.0.0) entries
  pub sound : (n : NodeId) (cost : ℕ) → Contains entries (n, cost) → (place : ℕ) × HasNode places place n ×
      (cost_at costs place ≡ Some cost)
  pub complete : (place : ℕ) (n : NodeId) (cost : ℕ) → HasNode places place n → cost_at costs place ≡ Some cost →
      Contains entries (n, cost)

-- the arc's row isn't closed, and the arc is tight from a place of this cost and leads to a marked place
pub record IsLeading (closed : List Bool) (costs : List (Option ℕ)) (marks : List Bool) (cost : ℕ)
    (arc : Arc) : Type 0 where
  pub row : is_place_marked closed arc.row ≡ false
  pub marked : is_place_marked marks arc.head ≡ true
  pub head : cost_at costs arc.head ≡ Some (cost + arc.metric)
