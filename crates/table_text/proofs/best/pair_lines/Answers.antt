use Rattle.std.proofs.Common.{◌∙◌, ◌++◌, ap, codes}
use Rattle.table_text.specs.{RouteText.{primary_line, route_line}, BestText.total_line}
use Rattle.table_text.proofs.best.pair_lines.Goals as goal

pub returns : goal.returns
returns c =
    let primary = primary_line c.args.primary.now c.cost_of.result in
    let backup = route_line (codes "backup") c.args.backup.now c.cost_of-2.result in
    c.in_ok-push_route-2.ensures
    ∙ (ap (λ text. text ++ backup) (c.in_ok-push_route.ensures ∙ ap (λ text. text ++ primary) c.in_ok-text.ensures)
    ∙ (λ i. total_line c.args.total ++ primary_line c.args.primary.now (c.cost_of.ensures i)
    ++ route_line (codes "backup") c.args.backup.now (c.cost_of-2.ensures i)))
