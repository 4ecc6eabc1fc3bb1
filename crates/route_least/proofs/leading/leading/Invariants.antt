use Rattle.std.proofs.Common.{◌≡◌, ◌+◌, length, sum_by}
use Rattle.route_least.specs.Marking.{AreMarking, Crosses, unmarked}
use Rattle.route_least.proofs.leading.leading.Given as goal

abbrev pub invariant-loop-place : goal.invariant-loop-place
invariant-loop-place l = record {
  len : length l.marks.items ≡ length l.places;
  marking : AreMarking (Crosses l.places l.closed) l.costs l.end l.marks.items l.waiting.items;
}

abbrev pub decreases-loop-place : goal.decreases-loop-place
decreases-loop-place l = sum_by unmarked l.marks.items + length l.waiting.items
