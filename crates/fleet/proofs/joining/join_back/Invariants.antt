use Rattle.std.proofs.Common.{◌≡◌, ◌≤◌}
use Rattle.fleet.specs.{Joining.{AreNewUpTo, joined_up_to}, Views.publishers_of}
use Rattle.fleet.proofs.joining.join_back.Given as goal

abbrev pub invariant-loop-low : goal.invariant-loop-low
invariant-loop-low l = record {
  within : l.low ≤ l.place;
  new : AreNewUpTo l.t (joined_up_to l.place l.low) l.stations;
  publishers : publishers_of l.stations ≡ publishers_of l.initial.stations;
}
