use Rattle.std.proofs.Common.{◌≡◌, ◌≤◌}
use Rattle.fleet.specs.{Connections.AreSettled, Views.publishers_of}
use Rattle.fleet.proofs.OneWorker.{AreUnder}
use Rattle.fleet.proofs.rounds.round_in_order.Given as goal

abbrev pub invariant-loop-place : goal.invariant-loop-place
invariant-loop-place g l = record {
  within : l.place ≤ l.place-end;
  settled : AreSettled l.seats l.stations;
  under : AreUnder l.seats l.initial.stations l.place l.stations;
  publishers : publishers_of l.stations ≡ publishers_of l.initial.stations;
}
