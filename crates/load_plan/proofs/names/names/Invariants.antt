use Rattle.std.proofs.Common.{◌≡◌, ◌-◌, ◌++◌}
use Rattle.load_plan.specs.Names.{names_from}
use Rattle.load_plan.proofs.names.names.Given as goal

abbrev pub invariant-loop-i : goal.invariant-loop-i
invariant-loop-i l = l.names ++ names_from l.named l.i (l.n - l.i) ≡ names_from l.named 0 l.n
