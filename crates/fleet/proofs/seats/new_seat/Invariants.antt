use Rattle.std.proofs.Common.{◌≤◌}
use Rattle.ason_base.specs.Network.{Network}
use Rattle.fleet.specs.Joining.{AreNew}
use Rattle.fleet.proofs.NewSeats.{AreEndsOf}
use Rattle.fleet.proofs.seats.new_seat.Given as goal

abbrev pub invariant-loop-station : goal.invariant-loop-station
invariant-loop-station l = record {
  within : l.station ≤ l.station-end;
  ends : (t : Network) → AreNew t l.stations → AreEndsOf t l.station l.id l.ends.items;
}
