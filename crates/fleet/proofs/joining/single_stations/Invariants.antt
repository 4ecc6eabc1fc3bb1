use Rattle.std.proofs.Common.{◌≡◌, length}
use Rattle.fleet.specs.Views.{AreUnwatched}
use Rattle.fleet.proofs.JoinStart.{AreSingle}
use Rattle.fleet.proofs.joining.single_stations.Given as goal

abbrev pub invariant-loop-node : goal.invariant-loop-node
invariant-loop-node l = record {
  count : length l.stations.items ≡ l.node-index;
  each : AreSingle l.t l.stations.items;
  unwatched : AreUnwatched l.stations.items;
}
