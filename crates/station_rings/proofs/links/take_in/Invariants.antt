use Rattle.std.proofs.Common.{◌≡◌, ◌≤◌, ◌+◌, ◌++◌, length}
use Rattle.std.specs.List.{AllByRecursion}
use Rattle.ason_base.specs.declared.limits.TheConstants.{MOST_FRAMES}
use Rattle.rtrb.specs.Ring.{received, known_items, SameConsumer}
use Rattle.station_rings.specs.LinkStates.{IsBearing}
use Rattle.station_rings.proofs.links.take_in.Given as goal

abbrev pub invariant-loop-into : goal.invariant-loop-into
invariant-loop-into l = record {
  same : SameConsumer l.initial.into l.into;
  few : length l.early + length (known_items l.into) ≤ MOST_FRAMES;
  received : received l.into ++ known_items l.into ≡ received l.initial.into ++ known_items l.initial.into;
  early : l.early ++ known_items l.into ≡ l.initial.early ++ known_items l.initial.into;
  bears : AllByRecursion IsBearing l.early;
}

abbrev pub decreases-loop-into : goal.decreases-loop-into
decreases-loop-into l = length (known_items l.into)
