use Rattle.std.proofs.Common.{◌≡◌, ◌≤◌, ◌*◌, ◌^◌, take}
use Rattle.control_channels.specs.ReadyControllers.{unacknowledged}
use Rattle.control_channels.proofs.adjacencies.pending.Given as goal

abbrev pub invariant-loop-adjacency : goal.invariant-loop-adjacency
invariant-loop-adjacency l = record {
  count : l.total ≡ unacknowledged (take l.adjacency-index l.adjacencies);
  small : l.total ≤ l.adjacency-index * 2 ^ 32;
}
