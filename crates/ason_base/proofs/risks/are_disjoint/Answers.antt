use Rattle.std.proofs.Common.{◌≡◌, get_or, arith, sym, ◌∙◌}
use Rattle.ason_base.specs.{contracts.risks.RiskOrd.TheImpl.ghosts, declared.risks.Risk.TheVariants.Srlg}
use Rattle.ason_base.proofs.RiskOrder.{below-less, below-greater, same-equal, apart_more, met}
use Rattle.ason_base.proofs.risks.are_disjoint.Goals as goal

pub loop-i-preserved-in-Less : goal.loop-i-preserved-in-Less
loop-i-preserved-in-Less c =
    let a = c.args.a.now in
    let b = c.args.b.now in
    let e : c.cmp.result ≡ ghosts.cmp (get_or a c.loop-i.i (Srlg 0)) (get_or b c.loop-i.j (Srlg 0)) = c.cmp.ensures in
    record {
      i_within = omega arith;
      j_within = omega arith;
      left = apart_more a b c.loop-i.i c.loop-i.j (Srlg 0) c.requires.b c.loop-i-test.true c.if-j-b.true
          c.loop-i.invariant.left c.loop-i.invariant.right
          (below-less (get_or a c.loop-i.i (Srlg 0)) (get_or b c.loop-i.j (Srlg 0)) (sym e ∙ c.in-Less.is));
      right = c.loop-i.invariant.right;
    }

pub returns-in-Equal : goal.returns-in-Equal
returns-in-Equal c =
    let a = c.args.a.now in
    let b = c.args.b.now in
    let e : c.cmp.result ≡ ghosts.cmp (get_or a c.loop-i.i (Srlg 0)) (get_or b c.loop-i.j (Srlg 0)) = c.cmp.ensures in (
      (λ h. absurd (cc)),
      λ h. absurd (met a b c.loop-i.i c.loop-i.j (Srlg 0) c.loop-i-test.true c.if-j-b.true
          (same-equal (get_or a c.loop-i.i (Srlg 0)) (get_or b c.loop-i.j (Srlg 0)) (sym e ∙ c.in-Equal.is)) h),
    )

pub loop-i-preserved : goal.loop-i-preserved
loop-i-preserved c =
    let a = c.args.a.now in
    let b = c.args.b.now in
    let e : c.cmp.result ≡ ghosts.cmp (get_or a c.loop-i.i (Srlg 0)) (get_or b c.loop-i.j (Srlg 0)) = c.cmp.ensures in
    record {
      i_within = omega arith;
      j_within = omega arith;
      left = c.loop-i.invariant.left;
      right = apart_more b a c.loop-i.j c.loop-i.i
          (Srlg 0) c.requires.a c.if-j-b.true c.loop-i-test.true c.loop-i.invariant.right c.loop-i.invariant.left
          (below-greater (get_or a c.loop-i.i (Srlg 0)) (get_or b c.loop-i.j (Srlg 0)) (sym e ∙ c.in-Greater.is));
    }
