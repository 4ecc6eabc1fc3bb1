use Rattle.std.proofs.Common.{◌≡◌, ◌++◌, map, take, drop}
use Rattle.control_channels.specs.Adjacencies.{committed}
use Rattle.control_channels.proofs.adjacencies.commit_all.Given as goal

abbrev pub invariant-loop-adjacency : goal.invariant-loop-adjacency
invariant-loop-adjacency l =
    l.adjacencies ≡ map committed (take l.adjacency-index l.fn.adjacencies) ++ drop l.adjacency-index l.fn.adjacencies
