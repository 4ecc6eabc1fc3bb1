use Rattle.std.proofs.Common.{string_bytes}
use Rattle.table_text.specs.TableText.{leg_text}
use Rattle.table_text.proofs.TextParts.{one_more}
use Rattle.table_text.proofs.table.push_legs.Goals as goal

pub loop-leg-preserved : goal.loop-leg-preserved
loop-leg-preserved c =
    one_more (leg_text c.args.plan.now) c.args.legs.now c.loop-leg.leg-index c.leg-item.result
    (string_bytes c.args.text.now) (string_bytes c.loop-leg.text) (string_bytes c.push_leg.new.text)
    c.loop-leg-test.true c.leg-item.is c.loop-leg.invariant c.in_ok-push_leg.ensures
