use Rattle.std.proofs.Common.{◌≡◌, ◌++◌, drop}
use Rattle.plan_reader.specs.PlanSetups.{steps_over}
use Rattle.plan_reader.proofs.setups.steps_over.Given as goal

abbrev pub invariant-going : goal.invariant-going
invariant-going l = l.steps ++ steps_over l.t l.node (drop l.i l.ids) ≡ steps_over l.t l.fn.from l.ids
