use Rattle.std.proofs.Common.{◌≡◌, ◌++◌, map, take, drop}
use Rattle.fleet.specs.Posting.{with_clock}
use Rattle.fleet.proofs.posts.set_clocks.Given as goal

abbrev pub invariant-loop-station : goal.invariant-loop-station
invariant-loop-station l =
    l.stations ≡ map (with_clock l.stamp) (take l.station-index l.fn.stations) ++ drop l.station-index l.fn.stations
