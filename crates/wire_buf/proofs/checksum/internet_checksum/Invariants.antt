use Rattle.std.proofs.Common.{length}
use Rattle.wire_buf.proofs.Sums.{SumsTo}
use Rattle.wire_buf.proofs.checksum.internet_checksum.Given as goal

abbrev pub invariant-fours : goal.invariant-fours
invariant-fours l = SumsTo l.bytes l.cursor l.sum

abbrev pub decreases-fours : goal.decreases-fours
decreases-fours l = length l.cursor

abbrev pub invariant-pairs : goal.invariant-pairs
invariant-pairs l = SumsTo l.bytes l.cursor l.sum

abbrev pub decreases-pairs : goal.decreases-pairs
decreases-pairs l = length l.cursor
