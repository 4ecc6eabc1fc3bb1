use Rattle.std.proofs.Common.{◌≡◌, ◌-◌, ◌++◌}
use Rattle.load_plan.specs.Setups.{setups_from}
use Rattle.load_plan.proofs.setups.setups.Given as goal

abbrev pub invariant-loop-i : goal.invariant-loop-i
invariant-loop-i l =
    l.lines ++ setups_from l.n l.calls l.i (l.calls - l.i) l.draws.state
    ≡ setups_from l.n l.calls 0 l.calls l.fn.draws.state
