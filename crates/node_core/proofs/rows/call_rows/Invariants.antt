use Rattle.std.proofs.Common.{◌≡◌, take}
use Rattle.std.specs.Prelude.{map}
use Rattle.mesh_rules.specs.Rows.{call_row}
use Rattle.node_core.proofs.rows.call_rows.Given as goal

abbrev pub invariant-loop-call : goal.invariant-loop-call
invariant-loop-call l = l.rows ≡ map (call_row l.n l.tables.legs) (take l.call-index l.calls)
