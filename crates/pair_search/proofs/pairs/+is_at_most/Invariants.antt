use Rattle.std.proofs.Common.{length}
use Rattle.pair_search.proofs.pairs.+is_at_most.Given as goal

abbrev pub decreases-is_at_most : goal.decreases-is_at_most
decreases-is_at_most l = length l.a.now
