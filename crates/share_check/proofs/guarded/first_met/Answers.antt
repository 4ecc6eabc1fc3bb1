use Rattle.std.proofs.{Common.{◌≡◌, ◌<◌, ◌∙◌, arith, get_or, inl, inr, length, subst, sym, true}, lemmas.List.get_or_default}
use Rattle.ason_base.specs.{Risks.is_below, contracts.risks.RiskOrd.TheImpl.ghosts, declared.risks.Risk.TheVariants.Srlg}
use Rattle.ason_base.proofs.RiskOrder.{below-greater, below-less, same-equal}
use Rattle.share_check.proofs.Walked.{further, length-risks, met-first, none-met, ordered-falls, rising-falls, risk-at, risks_in, unset}
use Rattle.share_check.proofs.guarded.first_met.Goals as goal

pub loop-i-preserved-in-Less : goal.loop-i-preserved-in-Less
loop-i-preserved-in-Less c =
    let r = c.args.risks.now in
    let g = c.args.guarded.now in
    let i = c.loop-i.i in
    let j = c.loop-i.j in
    let inside : j < length (risks_in g) = subst (λ n. j < n) (sym (length-risks g)) c.if-j-guarded.true in
    let e : c.cmp.result ≡ ghosts.cmp (get_or r i (Srlg 0)) (get_or g j unset).risk = c.cmp.ensures in
    let below : is_below (get_or r i (Srlg 0)) (get_or (risks_in g) j (Srlg 0)) ≡ true =
    subst (λ x. is_below (get_or r i (Srlg 0)) x ≡ true) (sym (risk-at g j unset))
    (below-less (get_or r i (Srlg 0)) (get_or g j unset).risk (sym e ∙ c.in-Less.is)) in
    record {
      i_within = omega arith;
      j_within = omega arith;
      asked = further r (risks_in g) i j (Srlg 0) (ordered-falls g c.requires.ordered) c.loop-i-test.true inside
          c.loop-i.invariant.asked c.loop-i.invariant.guards below;
      guards = c.loop-i.invariant.guards;
    }

pub returns-in-Equal-clause-first : goal.returns-in-Equal-clause-first
returns-in-Equal-clause-first c =
    let r = c.args.risks.now in
    let g = c.args.guarded.now in
    let i = c.loop-i.i in
    let j = c.loop-i.j in
    let e : c.cmp.result ≡ ghosts.cmp (get_or r i (Srlg 0)) (get_or g j unset).risk = c.cmp.ensures in
    met-first g r i j (Srlg 0) (get_or g j unset) c.requires.rising c.requires.ordered c.loop-i-test.true
    c.if-j-guarded.true (get_or_default g j unset (get_or g j unset) c.if-j-guarded.true)
    (same-equal (get_or r i (Srlg 0)) (get_or g j unset).risk (sym e ∙ c.in-Equal.is))
    c.loop-i.invariant.asked c.loop-i.invariant.guards

pub loop-i-preserved : goal.loop-i-preserved
loop-i-preserved c =
    let r = c.args.risks.now in
    let g = c.args.guarded.now in
    let i = c.loop-i.i in
    let j = c.loop-i.j in
    let inside : j < length (risks_in g) = subst (λ n. j < n) (sym (length-risks g)) c.if-j-guarded.true in
    let e : c.cmp.result ≡ ghosts.cmp (get_or r i (Srlg 0)) (get_or g j unset).risk = c.cmp.ensures in
    let above : is_below (get_or (risks_in g) j (Srlg 0)) (get_or r i (Srlg 0)) ≡ true =
    subst (λ x. is_below x (get_or r i (Srlg 0)) ≡ true) (sym (risk-at g j unset))
    (below-greater (get_or r i (Srlg 0)) (get_or g j unset).risk (sym e ∙ c.in-Greater.is)) in
    record {
      i_within = omega arith;
      j_within = omega arith;
      asked = c.loop-i.invariant.asked;
      guards = further (risks_in g) r j i (Srlg 0) (rising-falls r c.requires.rising) inside c.loop-i-test.true
          c.loop-i.invariant.guards c.loop-i.invariant.asked above;
    }

pub returns-else-j-guarded-clause-none : goal.returns-else-j-guarded-clause-none
returns-else-j-guarded-clause-none c =
    none-met c.args.guarded.now c.args.risks.now c.loop-i.i c.loop-i.j (inr c.if-j-guarded.false)
    c.loop-i.invariant.asked c.loop-i.invariant.guards

pub returns-after-loop-i-clause-none : goal.returns-after-loop-i-clause-none
returns-after-loop-i-clause-none c =
    none-met c.args.guarded.now c.args.risks.now c.loop-i.i c.loop-i.j (inl c.loop-i-test.false)
    c.loop-i.invariant.asked c.loop-i.invariant.guards
