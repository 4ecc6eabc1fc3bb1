use Rattle.std.proofs.Common.{◌≡◌, ◌++◌, map, take, drop}
use Rattle.station.specs.Watched.{publishing}
use Rattle.fleet.proofs.views.publish_all.Given as goal

abbrev pub invariant-loop-station : goal.invariant-loop-station
invariant-loop-station g l =
    l.stations ≡ map publishing (take l.station-index l.fn.stations) ++ drop l.station-index l.fn.stations
