use Rattle.std.proofs.{Common.arith, lemmas.Grind.common_steps}
use Rattle.ason_io.proofs.Bytes.{read_last, read_still}
use Rattle.ason_io.proofs.whole.read_all.Goals as goal

pub returns-in_err-n-clause-failed_within : goal.returns-in_err-n-clause-failed_within
returns-in_err-n-clause-failed_within g c = λ _. (
  c.reading.out.items,
  read_still g.S.Source.left g.S.Source.handed g.met.S.Source.goes_on _ c.reading.src _ _
      c.reading.invariant.read c.in_err-n.ensures.kept c.in_err-n.ensures.bytes,
  omega arith,
)

pub returns-then-n-eq0-clause-to_end : goal.returns-then-n-eq0-clause-to_end
returns-then-n-eq0-clause-to_end g c =
    rw (c.reserve.ensures.items) (read_last g.S.Source.left g.S.Source.handed g.S.Source.ended g.met.S.Source.goes_on _
    c.reading.src _ _ c.reading.invariant.read
    (rw c.if-n-eq0.true at c.in_ok-n.ensures.hands) (c.in_ok-n.ensures.end c.if-n-eq0.true
    (grind (arith, common_steps))) (rw c.if-n-eq0.true at (c.in_ok-n.ensures.bytes.0))
    (c.in_ok-n.ensures.bytes.1 c.if-n-eq0.true (grind (arith, common_steps))))
