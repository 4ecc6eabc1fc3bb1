use Rattle.std.proofs.Common.{◌≡◌, map, take}
use Rattle.control_channels.specs.Adjacencies.{new_adjacency}
use Rattle.control_channels.proofs.peers.begun.Given as goal

abbrev pub invariant-loop-number : goal.invariant-loop-number
invariant-loop-number l = l.all.items ≡ map new_adjacency (take l.number-index l.numbers)
