use Rattle.std.proofs.Common.{◌≡◌, ◌∷◌, map, take}
use Rattle.world_merge.specs.Lines.{lists_of}
use Rattle.round_rules.specs.States.{StationState}
use Rattle.fleet.proofs.merging.lists_of.Given as goal

abbrev pub invariant-loop-station : goal.invariant-loop-station
invariant-loop-station l =
    lists_of l.lists.items ≡ l.posts ∷ map (λ (s : StationState). s.log) (take l.station-index l.stations)
