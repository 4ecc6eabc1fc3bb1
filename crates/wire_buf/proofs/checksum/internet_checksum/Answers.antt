use Rattle.std.proofs.Common.{arith}
use Rattle.wire_buf.proofs.Sums.{adds_four, adds_pair}
use Rattle.wire_buf.proofs.checksum.internet_checksum.Goals as goal

pub fours-preserved : goal.fours-preserved
fours-preserved c =
    let h = c.in-Some.ensures in
    let r = rw c.in-Some.is at c.u64.type_inv in
    adds_four _ _ _ _ _ _ h.value.0 h.value.1 (omega arith) h.left (omega (arith, c.from-sum.ensures))
    c.fours.invariant

pub pairs-preserved : goal.pairs-preserved
pairs-preserved c =
    let h = c.in-Some-u32.ensures in
    let r = rw c.in-Some-u32.is at c.u32.type_inv in
    adds_pair _ _ _ _ _ _ h.value.0 h.value.1 (omega arith) h.left (omega (arith, c.from-sum-in-Some-u32.ensures))
    c.pairs.invariant
