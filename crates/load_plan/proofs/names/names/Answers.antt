use Rattle.load_plan.specs.Names.{names_from}
use Rattle.load_plan.proofs.OneMore.{name_more}
use Rattle.load_plan.proofs.names.names.Goals as goal

pub loop-i-preserved : goal.loop-i-preserved
loop-i-preserved c =
    name_more c.args.named c.args.n c.loop-i.i (names_from c.args.named 0 c.args.n) c.loop-i.names c.push.new.self
    c.in_ok-name_at.field-0 c.loop-i-test.true c.in_ok-name_at.ensures c.in_ok-push.ensures.ok c.loop-i.invariant
