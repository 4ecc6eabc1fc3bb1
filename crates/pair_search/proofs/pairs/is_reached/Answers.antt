use Rattle.std.proofs.Common.{Some, sym, ◌∙◌, subst}
use Rattle.pair_search.specs.Searches.{weighed, IsNoWorse, IsPairReached}
use Rattle.pair_search.proofs.Orders.{good-is, good-not}
use Rattle.pair_search.proofs.pairs.is_reached.Goals as goal

pub returns-in-Some-clause-reached : goal.returns-in-Some-clause-reached
returns-in-Some-clause-reached c = λ e.
    subst (λ best. IsPairReached best (weighed c.args.pair.now)) (sym c.in-Some.is)
    (good-is (weighed c.in-Some.old) (weighed c.args.pair.now) (sym c.is_as_good.ensures ∙ e))

pub returns-in-Some-clause-better : goal.returns-in-Some-clause-better
returns-in-Some-clause-better c = λ e.
    subst (λ best. IsNoWorse best (Some c.args.pair.now)) (sym c.in-Some.is)
    (good-not (weighed c.in-Some.old) (weighed c.args.pair.now) (sym c.is_as_good.ensures ∙ e))
