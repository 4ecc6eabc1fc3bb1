use Rattle.std.proofs.Common.{◌≡◌, ◌≤◌, length}
use Rattle.fleet.specs.{Joining.{AreNewUpTo, joined_up_to}, Views.publishers_of}
use Rattle.fleet.proofs.joining.join_all.Given as goal

abbrev pub invariant-loop-place : goal.invariant-loop-place
invariant-loop-place l = record {
  within : l.place ≤ l.place-end;
  count : l.place-end ≡ length l.stations;
  new : AreNewUpTo l.t (joined_up_to l.place 0) l.stations;
  publishers : publishers_of l.stations ≡ publishers_of l.initial.stations;
}
