use Rattle.std.proofs.Common.{◌≡◌, false, take}
use Rattle.std.specs.List.{list_any}
use Rattle.fleet.specs.Turning.{was_starved}
use Rattle.fleet.proofs.rounds.any_starved.Given as goal

abbrev pub invariant-loop-station : goal.invariant-loop-station
invariant-loop-station l = list_any was_starved (take l.station-index l.stations) ≡ false
