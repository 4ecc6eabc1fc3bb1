use Rattle.std.proofs.Common.{rules}
use Rattle.route_pair.proofs.bans.is_other.Goals as goal

pub returns-then-ne : goal.returns-then-ne
returns-then-ne c = search (rules)
