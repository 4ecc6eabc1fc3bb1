use Rattle.wire_buf.proofs.{Sequences.{is_empty, not_empty, stops}, Tlvs.{found_none, found_some, scan_finds, scan_other, scan_some, scan_twice, scan_value}}
use Rattle.wire_buf.proofs.tlv.at_most_one.Goals as goal

pub returns-in_default-clause-none : goal.returns-in_default-clause-none
returns-in_default-clause-none c ts are =
    absurd (stops _ _ _ (not_empty _ _ c.is_empty.ensures c.tlvs-test.true)
    c.in_default.ensures.none c.tlvs.invariant.read
    ts are)

pub returns-then-is_some-clause-none : goal.returns-then-is_some-clause-none
returns-then-is_some-clause-none c =
    let before = found_some c.tlvs.found c.is_some.result c.is_some.ensures c.if-is_some.true in
    scan_twice _ _ _ _ _ before.0 _ c.in-Some.ensures.found before.1 c.if-next-kind.true c.tlvs.invariant

pub tlvs-preserved-then-next-kind : goal.tlvs-preserved-then-next-kind
tlvs-preserved-then-next-kind c =
    scan_finds _ _ _ _ _ _ _ c.in-Some.ensures.found c.in-Some.ensures.left c.if-next-kind.true
    (found_none c.tlvs.found c.is_some.result c.is_some.ensures c.if-is_some.false) c.tlvs.invariant

pub tlvs-preserved : goal.tlvs-preserved
tlvs-preserved c =
    scan_other _ _ _ _ _ _ _ c.in-Some.ensures.found c.in-Some.ensures.left c.if-next-kind.false c.tlvs.invariant

pub returns-clause-some : goal.returns-clause-some
returns-clause-some c = scan_some _ _ _ _ _ (is_empty _ _ c.is_empty.ensures c.tlvs-test.false) c.tlvs.invariant

pub returns-clause-value : goal.returns-clause-value
returns-clause-value c = scan_value _ _ _ _ _ (is_empty _ _ c.is_empty.ensures c.tlvs-test.false) c.tlvs.invariant
