use Rattle.std.proofs.Common.{◌∙◌}
use Rattle.ason_base.proofs.RouteNodes.{share_inner}
use Rattle.ason_base.proofs.routes.routes_share_node.Goals as goal

pub returns : goal.returns
returns c = c.share_node.ensures ∙ rw (c.after_first.ensures, c.after_first-2.ensures)
    (share_inner c.args.a.now c.args.b.now)
