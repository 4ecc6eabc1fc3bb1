use Rattle.wire_buf.proofs.Sums.{cancels_iff}
use Rattle.wire_buf.proofs.checksum.right_checksums_cancel.Goals as goal

pub returns : goal.returns
returns c = cancels_iff
