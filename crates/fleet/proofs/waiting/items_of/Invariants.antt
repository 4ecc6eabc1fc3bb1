use Rattle.std.proofs.Common.{◌≡◌, ◌<◌, ◌^◌, length, take}
use Rattle.std.specs.Prelude.{sum_by}
use Rattle.round_rules.specs.States.{StationState}
use Rattle.fleet.proofs.waiting.items_of.Given as goal

abbrev pub invariant-loop-station : goal.invariant-loop-station
invariant-loop-station l = sum_by (λ (x : StationState). length x.desk) l.stations < 2 ^ 64 →
    l.sum ≡ sum_by (λ (x : StationState). length x.desk) (take l.station-index l.stations)
