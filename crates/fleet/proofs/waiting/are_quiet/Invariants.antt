use Rattle.std.proofs.Common.{◌≡◌, true, take}
use Rattle.std.specs.List.{list_all}
use Rattle.fleet.specs.Waiting.{has_nothing}
use Rattle.fleet.proofs.waiting.are_quiet.Given as goal

abbrev pub invariant-loop-station : goal.invariant-loop-station
invariant-loop-station l = list_all has_nothing (take l.station-index l.stations) ≡ true
