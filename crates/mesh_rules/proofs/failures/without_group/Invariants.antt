use Rattle.std.proofs.Common.{◌≡◌, take}
use Rattle.mesh_rules.specs.Failures.{without_group}
use Rattle.mesh_rules.proofs.failures.without_group.Given as goal

abbrev pub invariant-loop-other : goal.invariant-loop-other
invariant-loop-other l = record { items : l.others.items ≡ without_group l.group (take l.other-index l.groups) }
