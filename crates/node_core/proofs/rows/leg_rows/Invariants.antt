use Rattle.std.proofs.Common.{◌≡◌, take}
use Rattle.std.specs.Prelude.{map}
use Rattle.mesh_rules.specs.Rows.{leg_row}
use Rattle.node_core.proofs.rows.leg_rows.Given as goal

abbrev pub invariant-loop-place : goal.invariant-loop-place
invariant-loop-place l = l.rows ≡ map (leg_row l.n) (take l.place l.tables.legs)
