use Rattle.std.proofs.Common.{◌≡◌, ◌++◌}
use Rattle.world_merge.specs.Lines.{lines_left}
use Rattle.fleet.proofs.fleet.Fleet.merged.Given as goal

abbrev pub invariant-loop-line : goal.invariant-loop-line
invariant-loop-line l = l.all.items ++ lines_left l.line-iterator ≡ lines_left l.initial.line-iterator
