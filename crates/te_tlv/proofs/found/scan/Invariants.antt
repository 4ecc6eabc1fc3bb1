use Rattle.std.proofs.Common.{length}
use Rattle.te_tlv.proofs.SubTlvsFound.{FoundSoFar}
use Rattle.te_tlv.proofs.found.scan.Given as goal

abbrev pub invariant-tlvs : goal.invariant-tlvs
invariant-tlvs l = FoundSoFar l.body l.cursor l.found

abbrev pub decreases-tlvs : goal.decreases-tlvs
decreases-tlvs l = length l.cursor
