use Rattle.std.proofs.Common.{◌≡◌, ◌∙◌, ◌+◌, ◌≤◌, length, sym, subst}
use Rattle.route_least.specs.Network.{Goes}
use Rattle.route_least.proofs.{Passed.{IsPassing, all_passed, passed, passed_none, passing}, costs.pass.Goals.{then-visit, else-visit}}
use Rattle.route_least.proofs.costs.pass.Goals as goal

pub loop-place-init : goal.loop-place-init
loop-place-init c = passing (Goes c.args.places.now c.args.closed.now c.args.banned.now) c.args.costs.now
    c.args.lowered.now c.requires.bounded

pub visit-requires-clause-bounded : goal.visit-requires-clause-bounded
visit-requires-clause-bounded c = c.loop-place.invariant.bounded

pub loop-place-preserved : goal.loop-place-preserved
loop-place-preserved c =
    let goes = Goes c.args.places.now c.args.closed.now c.args.banned.now in
    let before = c.args.costs.now in
    let off = c.args.lowered.now in
    let k = c.loop-place.place in
    let e = c.visit.ensures in
    elim c.if-visit.branch [
      | then-visit w ↦ subst (IsPassing goes before off (k + 1) c.visit.new.costs c.visit.new.lowered)
          (sym w.changed-is)
          (passed goes before c.loop-place.costs c.visit.new.costs off c.loop-place.lowered c.visit.new.lowered k
          c.loop-place.changed c.loop-place.invariant e.step e.settled (e.falls w.if-visit.true))
      | else-visit w ↦ subst (IsPassing goes before off (k + 1) c.visit.new.costs c.visit.new.lowered)
          (sym w.changed-is)
          (passed_none goes before c.loop-place.costs c.visit.new.costs off c.loop-place.lowered c.visit.new.lowered
          k c.loop-place.changed c.loop-place.invariant e.step e.settled (e.kept w.if-visit.false)
          (e.off w.if-visit.false) (e.none w.if-visit.false))
    ]

pub returns-clause-step : goal.returns-clause-step
returns-clause-step c = c.loop-place.invariant.step

pub returns-clause-settled : goal.returns-clause-settled
returns-clause-settled c = c.loop-place.invariant.settled

pub returns-clause-none : goal.returns-clause-none
returns-clause-none c =
    let len : length c.loop-place.lowered ≡ length c.args.places.now = c.loop-place.auto.lowered ∙ c.requires.lowered in
    all_passed (Goes c.args.places.now c.args.closed.now c.args.banned.now) c.args.costs.now c.loop-place.costs
    c.args.lowered.now c.loop-place.lowered c.loop-place.place c.loop-place.changed
    (subst (λ n. n ≤ c.loop-place.place) (sym len) c.loop-place-test.false) c.loop-place.invariant
