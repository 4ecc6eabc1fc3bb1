use Rattle.std.proofs.Common.{◌≡◌, ◌++◌, map, take, drop}
use Rattle.flood.specs.State.{older_due}
use Rattle.flood.proofs.due.age_all.Given as goal

abbrev pub invariant-loop-d : goal.invariant-loop-d
invariant-loop-d l = l.due ≡ map older_due (take l.d-index l.fn.due) ++ drop l.d-index l.fn.due
