use Rattle.std.proofs.Common.{subst}
use Rattle.leg_table.specs.{LegMaps.LegSet, LegTables.AreLegsRising}
use Rattle.leg_table.proofs.LegMaps.{legs-rise}
use Rattle.leg_table.proofs.leg_map.LegMap.rises.Goals as goal

pub returns : goal.returns
returns c = subst (λ (v : LegSet). AreLegsRising v.legs) c.self.view_is (legs-rise _ _ c.self.invariant)
