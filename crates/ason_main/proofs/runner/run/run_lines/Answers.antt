use Rattle.std.proofs.{Common.{get_or, sym, subst, ◌∷◌, [], None}, lemmas.List.take_all}
use Rattle.ason_main.specs.Running.{CanDoAll, DoesAll, StopsAll, running_at}
use Rattle.ason_base.proofs.Results.{passed_on}
use Rattle.ason_main.proofs.{InView.{stay-self, stay-then}, Scripts.{can_next, does_more, does_none, stops_at}}
use Rattle.ason_main.proofs.runner.run.run_lines.Goals as goal

pub loop-line-init : goal.loop-line-init
loop-line-init g c = (
  does_none c.args.plan.now c.args.crew.now c.args.fleet.now (g.K.Sink.written c.args.out.now)
      (g.K.Sink.faults c.args.out.now),
  stay-self c.args.fleet.now.stations,
)

pub run_line-requires-after_bounds : goal.run_line-requires-after_bounds
run_line-requires-after_bounds g c lives bounds =
    subst (λ l. CanDoAll c.args.plan.now.topology c.loop-line.fleet (l ∷ [])) (sym c.line-item.is)
    (can_next c.every_law.ensures.rounds c.args.plan.now c.args.crew.now c.args.lines.now c.loop-line.line-index
    c.line-item.result
    (running_at c.args.fleet.now (g.K.Sink.written c.args.out.now) (g.K.Sink.faults c.args.out.now))
    (running_at c.loop-line.fleet (g.K.Sink.written c.loop-line.out) (g.K.Sink.faults c.loop-line.out))
    c.loop-line-test.true c.loop-line.invariant.0 c.requires)

pub returns-in_err-run_line-clause-stops : goal.returns-in_err-run_line-clause-stops
returns-in_err-run_line-clause-stops g c =
    passed_on c.from_residual.result _ _
    (λ e same.
    stops_at c.every_law.ensures.rounds c.args.plan.now c.args.crew.now c.args.lines.now c.loop-line.line-index
    c.line-item.result
    (running_at c.args.fleet.now (g.K.Sink.written c.args.out.now) (g.K.Sink.faults c.args.out.now))
    (running_at c.loop-line.fleet (g.K.Sink.written c.loop-line.out) (g.K.Sink.faults c.loop-line.out))
    (running_at c.run_line.new.fleet (g.K.Sink.written c.run_line.new.out) (g.K.Sink.faults c.run_line.new.out)) e
    c.loop-line-test.true c.loop-line.invariant.0
    (subst (λ s. StopsAll c.args.plan.now c.args.crew.now (get_or c.args.lines.now c.loop-line.line-index
    c.line-item.result ∷ [])
    (running_at c.loop-line.fleet (g.K.Sink.written c.loop-line.out) (g.K.Sink.faults c.loop-line.out))
    (running_at c.run_line.new.fleet (g.K.Sink.written c.run_line.new.out) (g.K.Sink.faults c.run_line.new.out)) s)
    (sym same)
    (subst (λ l. StopsAll c.args.plan.now c.args.crew.now (l ∷ [])
    (running_at c.loop-line.fleet (g.K.Sink.written c.loop-line.out) (g.K.Sink.faults c.loop-line.out))
    (running_at c.run_line.new.fleet (g.K.Sink.written c.run_line.new.out) (g.K.Sink.faults c.run_line.new.out))
    c.in_err-run_line.field-0.0)
    c.line-item.is c.in_err-run_line.ensures.stops)))
    c.from_residual.ensures.1

pub loop-line-preserved : goal.loop-line-preserved
loop-line-preserved g c = (
  does_more c.every_law.ensures.rounds c.args.plan.now c.args.crew.now c.args.lines.now c.loop-line.line-index
      c.line-item.result
      (running_at c.args.fleet.now (g.K.Sink.written c.args.out.now) (g.K.Sink.faults c.args.out.now))
      (running_at c.loop-line.fleet (g.K.Sink.written c.loop-line.out) (g.K.Sink.faults c.loop-line.out))
      (running_at c.run_line.new.fleet (g.K.Sink.written c.run_line.new.out) (g.K.Sink.faults c.run_line.new.out))
      c.loop-line-test.true c.loop-line.invariant.0
      (subst (λ l. DoesAll c.args.plan.now c.args.crew.now (l ∷ [])
      (running_at c.loop-line.fleet (g.K.Sink.written c.loop-line.out) (g.K.Sink.faults c.loop-line.out))
      (running_at c.run_line.new.fleet (g.K.Sink.written c.run_line.new.out) (g.K.Sink.faults c.run_line.new.out)) None)
      c.line-item.is c.in_ok-run_line.ensures.done),
  stay-then c.args.fleet.now.stations c.loop-line.fleet.stations c.run_line.new.fleet.stations
      c.loop-line.invariant.1 c.in_ok-run_line.ensures.views,
)

pub returns-clause-done : goal.returns-clause-done
returns-clause-done g c =
    subst (λ ls. DoesAll c.args.plan.now c.args.crew.now ls
    (running_at c.args.fleet.now (g.K.Sink.written c.args.out.now) (g.K.Sink.faults c.args.out.now))
    (running_at c.loop-line.fleet (g.K.Sink.written c.loop-line.out) (g.K.Sink.faults c.loop-line.out)) None)
    (take_all c.loop-line.line-index c.args.lines.now c.loop-line-test.false) c.loop-line.invariant.0
