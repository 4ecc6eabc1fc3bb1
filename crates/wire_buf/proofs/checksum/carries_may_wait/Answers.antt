use Rattle.wire_buf.proofs.Sums.{all_at_once}
use Rattle.wire_buf.proofs.checksum.carries_may_wait.Goals as goal

pub returns : goal.returns
returns c = all_at_once
