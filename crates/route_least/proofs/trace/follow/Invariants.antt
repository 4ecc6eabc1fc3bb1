use Rattle.std.proofs.Common.{◌≡◌, ◌<◌, true, length}
use Rattle.route_least.specs.{Costs.{cost_at, is_place_marked}, Marking.Crosses, Trace.IsTrace}
use Rattle.route_least.proofs.BestArc.{rise}
use Rattle.route_least.proofs.trace.follow.Given as goal

abbrev pub invariant-loop-place : goal.invariant-loop-place
invariant-loop-place l = record {
  trace : IsTrace (Crosses l.places l.closed) l.costs l.marks l.places l.ends.0 l.place l.route;
  within : l.place < length l.places;
  leads : is_place_marked l.marks l.place ≡ true;
}

abbrev pub decreases-loop-place : goal.decreases-loop-place
decreases-loop-place l = rise (cost_at l.costs l.place)
