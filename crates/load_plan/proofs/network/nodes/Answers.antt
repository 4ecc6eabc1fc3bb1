use Rattle.load_plan.specs.{Draws.after_draws, Networks.nodes_from}
use Rattle.load_plan.proofs.OneMore.{node_more, one_draw}
use Rattle.load_plan.proofs.network.nodes.Goals as goal

pub loop-i-preserved : goal.loop-i-preserved
loop-i-preserved c =
    let x = c.args.draws.now.state in
    let y = c.node_at.new.draws.state in (
      node_more c.args.n c.loop-i.i c.loop-i.draws.state y (nodes_from 0 c.args.n x) c.loop-i.nodes.items
          c.push.new.self.items c.node_at.result c.loop-i-test.true c.node_at.ensures.next c.node_at.ensures.node
          c.in_ok-push.ensures.items c.loop-i.invariant.0,
      one_draw c.args.n c.loop-i.i c.loop-i.draws.state y (after_draws c.args.n x) c.loop-i-test.true
          c.node_at.ensures.next c.loop-i.invariant.1,
    )
