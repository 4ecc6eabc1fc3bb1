use Rattle.std.proofs.Common.{◌≡◌, ◌≤◌, ◌++◌, length, map, take, drop}
use Rattle.round_rules.specs.Stands.{parcel_ticked}
use Rattle.station.proofs.ticks.age.Given as goal

abbrev pub invariant-loop-place : goal.invariant-loop-place
invariant-loop-place l = record {
  within : l.place ≤ l.count;
  count : l.count ≡ length l.initial.held.items;
  same :
      l.held.items ≡ map parcel_ticked (take l.place l.initial.held.items) ++ drop l.place l.initial.held.items;
}
