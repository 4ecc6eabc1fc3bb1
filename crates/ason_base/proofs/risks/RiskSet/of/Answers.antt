use Rattle.ason_base.proofs.RiskUnion.{risks-exact}
use Rattle.ason_base.proofs.risks.RiskSet.of.Goals as goal

pub returns-in-Ok-clause-exact : goal.returns-in-Ok-clause-exact
returns-in-Ok-clause-exact c =
    risks-exact c.args.rows.now c.args.route.now c.in-Ok.risks.items c.in-Ok.ensures.rising c.in-Ok.ensures.same
