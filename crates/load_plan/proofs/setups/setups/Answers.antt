use Rattle.load_plan.specs.Setups.{setups_from}
use Rattle.load_plan.proofs.OneMore.{setup_more}
use Rattle.load_plan.proofs.setups.setups.Goals as goal

pub loop-i-preserved : goal.loop-i-preserved
loop-i-preserved c =
    setup_more c.args.n c.args.calls c.loop-i.i c.loop-i.draws.state c.setup_at.new.draws.state
    (setups_from c.args.n c.args.calls 0 c.args.calls c.args.draws.now.state) c.loop-i.lines c.push.new.self
    c.push_settles.new.lines c.setup_at.result c.loop-i-test.true c.setup_at.ensures.next c.setup_at.ensures.setup
    c.in_ok-push.ensures.ok c.in_ok-push_settles.ensures c.loop-i.invariant
