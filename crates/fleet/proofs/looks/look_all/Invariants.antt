use Rattle.std.proofs.Common.{◌≡◌, ◌≤◌}
use Rattle.fleet.specs.{Connections.HaveSeats, Looks.{IsNodeBefore, LooksOver}, Views.publishers_of}
use Rattle.fleet.proofs.looks.look_all.Given as goal

abbrev pub invariant-loop-place : goal.invariant-loop-place
invariant-loop-place l = record {
  within : l.place ≤ l.place-end;
  seats : HaveSeats l.seats l.stations;
  looks : LooksOver l.seats (IsNodeBefore l.place) l.initial.stations l.stations;
  publishers : publishers_of l.stations ≡ publishers_of l.initial.stations;
}
