use Rattle.ason_base.proofs.RiskUnion.{both}
use Rattle.ason_base.proofs.risks.rising_risks.Goals as goal

pub returns-clause-same : goal.returns-clause-same
returns-clause-same c = both c.args.rows.now c.args.route.now _ _ c.in_ok-risks.ensures c.in_ok-order.ensures.same
