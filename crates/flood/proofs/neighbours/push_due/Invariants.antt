use Rattle.std.proofs.Common.{◌≡◌, ◌++◌, take}
use Rattle.flood.specs.State.{due_to}
use Rattle.flood.proofs.neighbours.push_due.Given as goal

abbrev pub invariant-loop-d : goal.invariant-loop-d
invariant-loop-d l = l.sends ≡ l.initial.sends ++ due_to l.to (take l.d-index l.due)
