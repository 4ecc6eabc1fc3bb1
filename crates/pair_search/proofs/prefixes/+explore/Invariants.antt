use Rattle.std.proofs.Common.{◌+◌, ◌-◌, ◌*◌, length}
use Rattle.ason_base.specs.declared.limits.TheConstants.{MOST_NODES}
use Rattle.pair_search.proofs.prefixes.+explore.Given as goal

abbrev pub decreases-explore : goal.decreases-explore
decreases-explore l = (MOST_NODES - length l.prefix.now.done) * 32 + 31

abbrev pub decreases-branch : goal.decreases-branch
decreases-branch l = (MOST_NODES - length l.prefix.now.done) * 32 + length l.rows.now
