-- Two ways to say that the legs stand in order of LSP.
use Rattle.std.proofs.Common.{List}
use Rattle.std.specs.Prelude.{IsTrue}
use Rattle.ason_base.specs.{declared.tables.Leg.Leg, Lsps.lsp_before}
use Rattle.mesh_nodes.specs.Order as order
use Rattle.ason_base.proofs.KeyedLists.{pairs-rise}
use Rattle.leg_table.specs.LegTables.{AreLegsRising}

pub legs-to : (legs : List Leg) → AreLegsRising legs → order.LegsRise legs
legs-to legs rise = pairs-rise (λ g h. IsTrue (lsp_before g.lsp h.lsp)) legs rise
