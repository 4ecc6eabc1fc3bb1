use Rattle.wire_buf.proofs.{Sequences.{is_empty, not_empty, stops}, Tlvs.scan_some}
use Rattle.te_tlv.proofs.SubTlvsFound.{found_all, found_on, found_twice}
use Rattle.te_tlv.proofs.found.scan.Goals as goal

pub returns-in_default-clause-none : goal.returns-in_default-clause-none
returns-in_default-clause-none c = λ subs are once.
    absurd (stops _ _ _ (not_empty _ _ c.is_empty.ensures c.tlvs-test.true) c.in_default.ensures.none
    c.tlvs.invariant.link_type.read subs are)

pub returns-then-not-keep-clause-none : goal.returns-then-not-keep-clause-none
returns-then-not-keep-clause-none c =
    found_twice _ _ _ _ c.in-Some.ensures.found (c.keep.ensures.twice c.if-not-keep.true) c.tlvs.invariant

pub tlvs-preserved : goal.tlvs-preserved
tlvs-preserved c =
    found_on _ _ _ _ _ _ c.in-Some.ensures.found c.in-Some.ensures.left (c.keep.ensures.kept c.if-not-keep.false)
    c.tlvs.invariant

pub returns-clause-some : goal.returns-clause-some
returns-clause-some c =
    scan_some _ _ _ _ _ (is_empty _ _ c.is_empty.ensures c.tlvs-test.false) c.tlvs.invariant.link_type

pub returns-clause-found : goal.returns-clause-found
returns-clause-found c = found_all _ _ _ (is_empty _ _ c.is_empty.ensures c.tlvs-test.false) c.tlvs.invariant
