use Rattle.wire_buf.proofs.Tlvs.{found_some}
use Rattle.te_tlv.proofs.found.keep.Goals as goal

pub returns-then-is_some-clause-twice : goal.returns-then-is_some-clause-twice
returns-then-is_some-clause-twice c = λ e.
    let before = found_some c.args.found.now c.is_some.result c.is_some.ensures c.if-is_some.true in
    (c.if-kind-wanted.false, before.0, before.1)
