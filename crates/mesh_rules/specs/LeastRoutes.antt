-- The route that a rule names, as a function of the rows that its node knows: the least of all walks of at most 63
-- links.
use Rattle.std.specs.{Prelude.{ℕ, zero, suc, ◌+◌, ◌==◌, ◌&&◌, ◌||◌, nat_lt, Bool, true, false, not, List, [], ◌∷◌, ◌++◌, filter, map, Option, Some, None, if◌then◌else◌}, List.{flat_map, list_any}}
use Rattle.ason_base.specs.{declared.ids.NodeId.NodeId, declared.network.TeRow.TeRow, declared.steps.Step.Step, Risks.{have_common, route_risks}}
use Rattle.mesh_rules.specs.declared.limits.TheConstants.{MOST_LINKS_OF_ROUTE}

-- All walks

-- the steps of a walk, and the sum of their metrics
pub record Trip : Type 0 where
  pub steps : List Step
  pub cost : ℕ

-- from a node to itself, without a step
abbrev pub stay : Trip
stay = record { steps = []; cost = 0 }

-- over this row from a, and then on
abbrev pub trip_over_row : NodeId → TeRow → Trip → Trip
trip_over_row a row r = record { steps = record { node = a; link = row.link } ∷ r.steps; cost = row.metric + r.cost }

-- where this end of the row is a: over it, and on from the other end
abbrev pub from_end : (NodeId → List Trip) → NodeId → TeRow → NodeId → NodeId → List Trip
from_end onward a row near far = if near.0 == a.0 then map (trip_over_row a row) (onward far) else []

-- from either end
abbrev pub across_row : (NodeId → List Trip) → NodeId → TeRow → List Trip
across_row onward a row = from_end onward a row row.low row.high ++ from_end onward a row row.high row.low

-- all walks of at most so many links from a to b; this is a definition alone, and nothing computes it
unfoldable pub trips : List TeRow → ℕ → NodeId → NodeId → List Trip
trips rows zero a b = if a.0 == b.0 then stay ∷ [] else []
trips rows (suc k) a b = (if a.0 == b.0 then stay ∷ [] else []) ++ flat_map (across_row (λ n. trips rows k n b) a) rows

-- The least of them

-- at the first place where the lists of links differ, the first has ended or has the lesser link; or they don't differ
abbrev pub is_at_most : List Step → List Step → Bool
is_at_most [] ys = true
is_at_most (x ∷ xs) [] = false
is_at_most (x ∷ xs) (y ∷ ys) = nat_lt x.link.0 y.link.0 || (x.link.0 == y.link.0 && is_at_most xs ys)

-- it costs less, or as much with a list of links that is at most the other's
abbrev pub precedes : Trip → Trip → Bool
precedes x y = nat_lt x.cost y.cost || (x.cost == y.cost && is_at_most x.steps y.steps)

abbrev pub lesser_trip : Trip → Option Trip → Trip
lesser_trip x None = x
lesser_trip x (Some y) = if precedes x y then x else y

abbrev pub least_of_trips : List Trip → Option Trip
least_of_trips [] = None
least_of_trips (x ∷ xs) = Some (lesser_trip x (least_of_trips xs))

-- The two routes

-- the least of all walks from a to b
abbrev pub least_trip : List TeRow → NodeId → NodeId → Option Trip
least_trip rows a b = least_of_trips (trips rows MOST_LINKS_OF_ROUTE a b)

-- the step's node is one between the ends, and the primary route visits it too
abbrev pub shares_inner : NodeId → NodeId → List Step → Step → Bool
shares_inner from to primary s = not (s.node.0 == from.0)
    && (not (s.node.0 == to.0) && list_any (λ q. q.node.0 == s.node.0) primary)

-- no risk is one of both routes, and they share no node between the ends
abbrev pub is_backup_route : List TeRow → List Step → NodeId → NodeId → List Step → Bool
is_backup_route rows primary from to route =
    not (have_common (route_risks rows route) (route_risks rows primary))
    && not (list_any (shares_inner from to primary) route)

-- the least of all walks that are risk-disjoint from the primary route and share no inner node with it
abbrev pub least_backup : List TeRow → List Step → NodeId → NodeId → Option Trip
least_backup rows primary from to =
    least_of_trips (filter (λ r. is_backup_route rows primary from to r.steps) (trips rows MOST_LINKS_OF_ROUTE from to))
