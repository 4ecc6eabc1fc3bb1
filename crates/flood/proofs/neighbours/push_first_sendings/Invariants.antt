use Rattle.std.proofs.Common.{◌≡◌, ◌++◌, take}
use Rattle.flood.specs.State.{first_sendings}
use Rattle.flood.proofs.neighbours.push_first_sendings.Given as goal

abbrev pub invariant-loop-n : goal.invariant-loop-n
invariant-loop-n l = l.sends ≡ l.initial.sends ++ first_sendings l.from l.origin l.row (take l.n-index l.neighbours)
