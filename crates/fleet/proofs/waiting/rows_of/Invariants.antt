use Rattle.std.proofs.Common.{◌≡◌, take}
use Rattle.std.specs.Prelude.{flat_map}
use Rattle.fleet.specs.Waiting.{call_rows_of, leg_rows_of}
use Rattle.fleet.proofs.waiting.rows_of.Given as goal

abbrev pub invariant-loop-station : goal.invariant-loop-station
invariant-loop-station l = record {
  calls : l.calls.items ≡ flat_map call_rows_of (take l.station-index l.stations);
  legs : l.legs.items ≡ flat_map leg_rows_of (take l.station-index l.stations);
}
