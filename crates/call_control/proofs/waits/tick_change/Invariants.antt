use Rattle.std.proofs.Common.{◌≡◌, take}
use Rattle.mesh_rules.specs.Waits.{all_ticked}
use Rattle.call_control.proofs.waits.tick_change.Given as goal

abbrev pub invariant-loop-call : goal.invariant-loop-call
invariant-loop-call l = l.change ≡ all_ticked l.tables.wait l.tables.legs (take l.call-index l.call-items)
