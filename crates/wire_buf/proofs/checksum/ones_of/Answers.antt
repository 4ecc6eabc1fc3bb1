use Rattle.std.proofs.Common.{rules}
use Rattle.wire_buf.proofs.checksum.ones_of.Goals as goal

pub returns-else-sum-eq0 : goal.returns-else-sum-eq0
returns-else-sum-eq0 c = search (rules)
