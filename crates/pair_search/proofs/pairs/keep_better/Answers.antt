use Rattle.pair_search.specs.Searches.{weighed}
use Rattle.pair_search.proofs.Orders.{good-same, worse-same}
use Rattle.pair_search.proofs.pairs.keep_better.Goals as goal

pub returns-then-not-is_reached-clause-reached : goal.returns-then-not-is_reached-clause-reached
returns-then-not-is_reached-clause-reached c = good-same (weighed c.args.pair)

pub returns-else-not-is_reached-clause-kept : goal.returns-else-not-is_reached-clause-kept
returns-else-not-is_reached-clause-kept c = worse-same c.args.best.now
