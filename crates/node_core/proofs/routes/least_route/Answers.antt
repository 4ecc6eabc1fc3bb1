use Rattle.std.proofs.Common.{◌∙◌}
use Rattle.node_core.proofs.LeastRoute.{found-is, missed-is}
use Rattle.node_core.proofs.routes.least_route.Goals as goal

pub returns-in-Ok : goal.returns-in-Ok
returns-in-Ok c =
    let rows = c.args.rows.now in
    found-is rows c.deref.result.now (c.deref.ensures.value ∙
    c.in_ok-closed.ensures) c.args.from c.args.to c.requires c.in-Ok.found
    (c.in-Ok.ensures.found rows c.in_ok-network.ensures)

pub returns-in-Err-NoRoute : goal.returns-in-Err-NoRoute
returns-in-Err-NoRoute c =
    let rows = c.args.rows.now in
    missed-is rows c.deref.result.now (c.deref.ensures.value ∙
    c.in_ok-closed.ensures) c.args.from c.args.to c.requires c.in-Err-NoRoute.field-0
    c.in-Err-NoRoute.field-0-0 c.in-Err-NoRoute.field-0-is
    (c.in-Err-NoRoute.ensures.none rows c.in_ok-network.ensures)
