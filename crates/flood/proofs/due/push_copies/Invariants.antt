use Rattle.std.proofs.Common.{◌≡◌, ◌++◌, take}
use Rattle.flood.proofs.due.push_copies.Given as goal

abbrev pub invariant-loop-d : goal.invariant-loop-d
invariant-loop-d l = l.all.items ≡ l.fn.all.items ++ take l.d-index l.due
