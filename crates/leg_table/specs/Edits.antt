-- What a change of a leg puts.
use Rattle.std.specs.Prelude.{Option, Some, None}
use Rattle.ason_base.specs.declared.tables.Leg.{Leg}
use Rattle.mesh_rules.specs.{declared.changes.LegChange.LegChange, declared.changes.LegChange.TheVariants.{Goes, Put}}

-- the leg that is put
abbrev pub leg_put : LegChange → Option Leg
leg_put (Goes l) = None
leg_put (Put g) = Some g
