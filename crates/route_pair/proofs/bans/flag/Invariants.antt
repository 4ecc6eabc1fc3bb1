use Rattle.route_pair.proofs.Flags.{AreFlaggedTo}
use Rattle.route_pair.proofs.bans.flag.Given as goal

abbrev pub invariant-loop-number : goal.invariant-loop-number
invariant-loop-number l = AreFlaggedTo l.numbers l.number-index l.flags
