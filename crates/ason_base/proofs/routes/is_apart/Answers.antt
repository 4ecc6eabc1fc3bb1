use Rattle.std.proofs.Common.{sym, ◌∙◌}
use Rattle.ason_base.proofs.{RouteNodes.{ends_again, comes_again, still_apart}, routes.is_apart.Goals.{then-eq-via-then-eq, then-eq-via-else-eq+then-visits}}
use Rattle.ason_base.proofs.routes.is_apart.Goals as goal

pub returns-then-eq : goal.returns-then-eq
returns-then-eq c =
    elim c.then-eq.branch [
      | then-eq-via-then-eq w ↦ ends_again c.args.route.now c.args.to.0 c.loop-i.i _ _ c.loop-i-test.true
          c.loop-i.invariant (sym c.eq.ensures ∙ w.if-eq.true)
      | then-eq-via-else-eq+then-visits w ↦ comes_again c.args.route.now c.args.to.0 c.loop-i.i _ _
          c.loop-i-test.true c.loop-i.invariant (sym c.eq.ensures ∙ w.if-eq.false)
          (sym w.visits.ensures ∙ w.if-visits.true)
    ]

pub loop-i-preserved : goal.loop-i-preserved
loop-i-preserved c =
    still_apart c.args.route.now c.args.to.0 c.loop-i.i _ _ c.loop-i-test.true c.loop-i.invariant
    (sym c.eq.ensures ∙ c.if-eq.false) (sym c.visits.ensures ∙ c.if-visits.false)
