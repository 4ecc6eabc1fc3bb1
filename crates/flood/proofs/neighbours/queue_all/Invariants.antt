use Rattle.std.proofs.Common.{◌≡◌, ◌++◌, map, take, drop}
use Rattle.flood.specs.State.{queued_unless}
use Rattle.flood.proofs.neighbours.queue_all.Given as goal

abbrev pub invariant-loop-i : goal.invariant-loop-i
invariant-loop-i l = l.neighbours ≡ map (queued_unless l.from l.origin l.age l.row) (take l.i l.fn.neighbours) ++
    drop l.i l.fn.neighbours
