use Rattle.std.proofs.Common.{[], sym, subst}
use Rattle.plan_reader.specs.{Plans.{ArePostable, HasNames}, declared.plan.Plan.Plan}
use Rattle.load_plan.proofs.Postable.{plan_is_named, plan_is_postable}
use Rattle.load_plan.proofs.parts.load_parts.Goals as goal

pub returns-clause-named : goal.returns-clause-named
returns-clause-named c =
    subst HasNames (sym c.in_ok-plan.ensures) (plan_is_named c.args.seed c.args.nodes c.args.calls)

pub returns-clause-built : goal.returns-clause-built
returns-clause-built c =
    subst (λ (p : Plan). ArePostable p.topology [] p.lines) (sym c.in_ok-plan.ensures)
    (plan_is_postable c.args.seed c.args.nodes c.args.calls c.requires.least c.requires.most)
