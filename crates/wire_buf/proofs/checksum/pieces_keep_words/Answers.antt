use Rattle.wire_buf.proofs.Sums.{words-append}
use Rattle.wire_buf.proofs.checksum.pieces_keep_words.Goals as goal

pub returns : goal.returns
returns c = words-append
