use Rattle.std.proofs.Common.{◌≡◌, ◌∙◌, ap, sym, subst, take, take_all, [], ◌∷◌, ◌++◌}
use Rattle.ason_base.specs.Risks.{risks_of}
use Rattle.ason_base.proofs.{RiskUnion.{AreRisks, added, skipped, taken}, risks.gather.Goals.{then-passes+in_ok-push_risks, else-passes}}
use Rattle.ason_base.proofs.risks.gather.Goals as goal

pub loop-row-preserved : goal.loop-row-preserved
loop-row-preserved c =
    let rows = c.args.rows.now in
    let i = c.loop-row.row-index in
    let row = c.row-item.result in
    let route = c.args.route.now in
    let t = taken rows i row c.loop-row-test.true c.row-item.is in
    elim c.if-passes.branch [
      | then-passes+in_ok-push_risks w ↦
          (let e : c.if-passes.risks.items ≡ c.loop-row.risks.items ++ risks_of row = ap (λ v. v.items) w.risks-is ∙
          w.in_ok-push_risks.ensures in
          subst (λ ts. AreRisks ts route c.if-passes.risks.items) (sym t)
          (subst (λ items. AreRisks (take i rows ++ row ∷ []) route items) (sym e)
          (added (take i rows) row route c.loop-row.risks.items c.loop-row.invariant
          (c.passes.ensures.0 w.if-passes.true))))
      | else-passes w ↦
          (let e : c.if-passes.risks.items ≡ c.loop-row.risks.items = ap (λ v. v.items) w.risks-is in
          subst (λ ts. AreRisks ts route c.if-passes.risks.items) (sym t)
          (subst (λ items. AreRisks (take i rows ++ row ∷ []) route items) (sym e)
          (skipped (take i rows) row route c.loop-row.risks.items c.loop-row.invariant
          (λ p. absurd (cc (c.passes.ensures.1 p, w.if-passes.false))))))
    ]

pub returns : goal.returns
returns c = subst (λ ts. AreRisks ts c.args.route.now c.loop-row.risks.items)
    (take_all c.loop-row.row-index c.args.rows.now c.loop-row-test.false) c.loop-row.invariant
