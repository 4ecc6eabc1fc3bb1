use Rattle.std.proofs.Common.{◌≡◌, ◌++◌, map, take, drop}
use Rattle.flood.specs.State.{acked_by}
use Rattle.flood.proofs.neighbours.take_ack.Given as goal

abbrev pub invariant-loop-n : goal.invariant-loop-n
invariant-loop-n l = l.neighbours ≡ map (acked_by l.from l.number) (take l.n-index l.fn.neighbours) ++
    drop l.n-index l.fn.neighbours
