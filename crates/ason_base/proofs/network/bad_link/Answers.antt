use Rattle.std.proofs.Common.{below_more, sym}
use Rattle.ason_base.proofs.network.bad_link.Goals as goal

pub loop-i-preserved : goal.loop-i-preserved
loop-i-preserved c = below_more _ _ c.loop-i.invariant (sym c.if-not-is_link_at.ensures)
