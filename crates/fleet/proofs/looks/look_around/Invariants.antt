use Rattle.std.proofs.Common.{◌≡◌, ◌≤◌}
use Rattle.fleet.specs.{Connections.HaveSeats, Looks.{IsLinkBefore, LooksOver}, Views.publishers_of}
use Rattle.fleet.proofs.looks.look_around.Given as goal

abbrev pub invariant-loop-link : goal.invariant-loop-link
invariant-loop-link l = record {
  within : l.link ≤ l.link-end;
  seats : HaveSeats l.seats l.stations;
  looks : LooksOver l.seats (IsLinkBefore l.place l.link) l.initial.stations l.stations;
  publishers : publishers_of l.stations ≡ publishers_of l.initial.stations;
}
