use Rattle.std.proofs.Common.{◌≡◌, Some, sym, ◌∙◌, subst}
use Rattle.route_least.specs.Costs.{cost_at}
use Rattle.route_least.proofs.PlaceLists.{none_some}
use Rattle.route_least.proofs.network.cost_to.Goals as goal

pub returns-in-None-costs : goal.returns-in-None-costs
returns-in-None-costs c = λ p cost there has.
    let here = c.requires.once p c.in-Some.end c.args.to there c.in-Some.ensures in
    none_some (sym c.in-None-costs.is ∙ subst (λ k. cost_at c.args.costs.now k ≡ Some cost) here has)
