use Rattle.std.proofs.Common.{◌+◌, ◌*◌, ◌/◌}
use Rattle.load_plan.specs.{Draws.after_draws, Networks.links_from}
use Rattle.load_plan.proofs.OneMore.{link_more, two_draws}
use Rattle.load_plan.proofs.network.links.Goals as goal

pub loop-i-preserved : goal.loop-i-preserved
loop-i-preserved c =
    let m = c.args.n + c.args.n / 2 in
    let x = c.args.draws.now.state in
    let y = c.link_at.new.draws.state in (
      link_more c.args.n m c.loop-i.i c.loop-i.draws.state y (links_from c.args.n 0 m x) c.loop-i.links.items
          c.push.new.self.items c.in_ok-link_at.field-0 c.loop-i-test.true c.in_ok-link_at.ensures.next
          c.in_ok-link_at.ensures.link c.in_ok-push.ensures.items c.loop-i.invariant.0,
      two_draws m c.loop-i.i c.loop-i.draws.state y (after_draws (2 * m) x) c.loop-i-test.true
          c.in_ok-link_at.ensures.next c.loop-i.invariant.1,
    )
