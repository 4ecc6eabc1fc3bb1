use Rattle.std.proofs.Common.{◌≡◌, ◌++◌, map, take, drop}
use Rattle.flood.specs.State.{unqueued_unless}
use Rattle.flood.proofs.neighbours.unqueue_first.Given as goal

abbrev pub invariant-loop-i : goal.invariant-loop-i
invariant-loop-i l = l.neighbours ≡ map (unqueued_unless l.from) (take l.i l.fn.neighbours) ++ drop l.i l.fn.neighbours
