use Rattle.std.proofs.Common.{◌≡◌, ◌++◌, map, take, drop}
use Rattle.flood.specs.State.{older_neighbour}
use Rattle.flood.proofs.neighbours.age_neighbours.Given as goal

abbrev pub invariant-loop-n : goal.invariant-loop-n
invariant-loop-n l = l.neighbours ≡ map older_neighbour (take l.n-index l.fn.neighbours) ++
    drop l.n-index l.fn.neighbours
