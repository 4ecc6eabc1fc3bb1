use Rattle.std.proofs.Common.{length}
use Rattle.std.specs.Option.{option_copied}
use Rattle.wire_buf.proofs.Tlvs.{Scanned}
use Rattle.wire_buf.proofs.tlv.at_most_one.Given as goal

abbrev pub invariant-tlvs : goal.invariant-tlvs
invariant-tlvs l = Scanned l.counted l.kind l.bytes l.cursor (option_copied l.found)

abbrev pub decreases-tlvs : goal.decreases-tlvs
decreases-tlvs l = length l.cursor
