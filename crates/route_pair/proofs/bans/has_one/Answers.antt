use Rattle.std.proofs.Common.{arith, below_more}
use Rattle.route_pair.proofs.Closing.{no_one}
use Rattle.route_pair.proofs.bans.has_one.Goals as goal

pub loop-srlg-init : goal.loop-srlg-init
loop-srlg-init c = λ k below. absurd (omega arith)

pub loop-srlg-preserved : goal.loop-srlg-preserved
loop-srlg-preserved c = below_more _ _ c.loop-srlg.invariant
    (λ there. absurd (let h = c.is_among.ensures.1 there in let k = c.if-is_among.false in cc (h, k)))

pub returns : goal.returns
returns c = (
  (λ h. absurd (cc (h))),
  (λ one. absurd
      (no_one c.args.row.now c.args.srlgs.now c.items-srlg-items.result.now c.loop-srlg.srlg-index
      c.items-srlg-items.ensures c.loop-srlg-test.false c.loop-srlg.invariant one)),
)
