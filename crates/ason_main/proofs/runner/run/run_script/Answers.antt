use Rattle.std.proofs.{Common.{◌++◌, None, refl, subst, sym}, lemmas.Result.IfErr-weaker}
use Rattle.ason_base.proofs.Results.{on_ok, passed_on}
use Rattle.script_rules.specs.Stages.{new_stage}
use Rattle.ason_main.specs.{Running.{CanDoAll, DoesAll, StopsAll, running_at}, Views.StayInView}
use Rattle.ason_main.proofs.{InView.stay-then, PlanRuns.postable_script, Scripts.{can_then, does_script, first_lines, last_lines, stops_first, stops_last, stops_lines}}
use Rattle.ason_main.proofs.runner.run.run_script.Goals as goal

pub run_lines-requires-after_bounds : goal.run_lines-requires-after_bounds
run_lines-requires-after_bounds g c lives bounds =
    record { stage = new_stage; stands = record { stands = c.requires.new; going = refl }; can = (tt, tt) }

pub run_lines-requires-2-after_bounds : goal.run_lines-requires-2-after_bounds
run_lines-requires-2-after_bounds g c lives bounds =
    subst (CanDoAll c.args.plan.now.topology c.run_lines.new.fleet) (sym c.items.ensures)
    (can_then c.every_law.ensures.rounds c.args.plan.now c.args.crew.now (first_lines 1000) c.args.plan.now.lines
    (running_at c.args.fleet.now (g.K.Sink.written c.args.out.now) (g.K.Sink.faults c.args.out.now))
    (running_at c.run_lines.new.fleet (g.K.Sink.written c.run_lines.new.out) (g.K.Sink.faults c.run_lines.new.out))
    c.in_ok-run_lines.ensures.done
    (record {
      stage = new_stage;
      stands = record { stands = c.requires.new; going = refl };
      can = (tt, c.requires.postable);
    }))

pub run_lines-requires-3-after_bounds : goal.run_lines-requires-3-after_bounds
run_lines-requires-3-after_bounds g c lives bounds =
    let p = c.args.plan.now in
    can_then c.every_law.ensures.rounds p c.args.crew.now p.lines (last_lines 1000)
    (running_at c.run_lines.new.fleet (g.K.Sink.written c.run_lines.new.out) (g.K.Sink.faults c.run_lines.new.out))
    (running_at c.run_lines-2.new.fleet (g.K.Sink.written c.run_lines-2.new.out)
    (g.K.Sink.faults c.run_lines-2.new.out))
    (subst (λ ls. DoesAll p c.args.crew.now ls
    (running_at c.run_lines.new.fleet (g.K.Sink.written c.run_lines.new.out) (g.K.Sink.faults c.run_lines.new.out))
    (running_at c.run_lines-2.new.fleet (g.K.Sink.written c.run_lines-2.new.out)
    (g.K.Sink.faults c.run_lines-2.new.out)) None)
    c.items.ensures c.in_ok-run_lines-2.ensures.done)
    (can_then c.every_law.ensures.rounds p c.args.crew.now (first_lines 1000) (p.lines ++ last_lines 1000)
    (running_at c.args.fleet.now (g.K.Sink.written c.args.out.now) (g.K.Sink.faults c.args.out.now))
    (running_at c.run_lines.new.fleet (g.K.Sink.written c.run_lines.new.out) (g.K.Sink.faults c.run_lines.new.out))
    c.in_ok-run_lines.ensures.done
    (record {
      stage = new_stage;
      stands = record { stands = c.requires.new; going = refl };
      can = postable_script 1000 p c.requires.postable;
    }))

pub returns-in_err-run_lines-clause-stops : goal.returns-in_err-run_lines-clause-stops
returns-in_err-run_lines-clause-stops g c =
    passed_on c.from_residual.result _ _
    (λ e same. stops_first c.args.plan.now c.args.crew.now 1000
    (running_at c.args.fleet.now (g.K.Sink.written c.args.out.now) (g.K.Sink.faults c.args.out.now))
    (running_at c.run_lines.new.fleet (g.K.Sink.written c.run_lines.new.out) (g.K.Sink.faults c.run_lines.new.out)) e
    (subst (StopsAll c.args.plan.now c.args.crew.now (first_lines 1000)
    (running_at c.args.fleet.now (g.K.Sink.written c.args.out.now) (g.K.Sink.faults c.args.out.now))
    (running_at c.run_lines.new.fleet (g.K.Sink.written c.run_lines.new.out) (g.K.Sink.faults c.run_lines.new.out)))
    (sym same) c.in_err-run_lines.ensures.stops))
    c.from_residual.ensures.1

pub returns-in_err-run_lines-2-clause-stops : goal.returns-in_err-run_lines-2-clause-stops
returns-in_err-run_lines-2-clause-stops g c =
    passed_on c.from_residual-in_err-run_lines-2.result _ _
    (λ e same. stops_lines c.every_law.ensures.rounds c.args.plan.now c.args.crew.now 1000
    (running_at c.args.fleet.now (g.K.Sink.written c.args.out.now) (g.K.Sink.faults c.args.out.now))
    (running_at c.run_lines.new.fleet (g.K.Sink.written c.run_lines.new.out) (g.K.Sink.faults c.run_lines.new.out))
    (running_at c.run_lines-2.new.fleet (g.K.Sink.written c.run_lines-2.new.out)
    (g.K.Sink.faults c.run_lines-2.new.out)) e
    c.in_ok-run_lines.ensures.done
    (subst (StopsAll c.args.plan.now c.args.crew.now c.args.plan.now.lines
    (running_at c.run_lines.new.fleet (g.K.Sink.written c.run_lines.new.out) (g.K.Sink.faults c.run_lines.new.out))
    (running_at c.run_lines-2.new.fleet (g.K.Sink.written c.run_lines-2.new.out)
    (g.K.Sink.faults c.run_lines-2.new.out)))
    (sym same)
    (subst (λ ls. StopsAll c.args.plan.now c.args.crew.now ls
    (running_at c.run_lines.new.fleet (g.K.Sink.written c.run_lines.new.out) (g.K.Sink.faults c.run_lines.new.out))
    (running_at c.run_lines-2.new.fleet (g.K.Sink.written c.run_lines-2.new.out)
    (g.K.Sink.faults c.run_lines-2.new.out))
    c.in_err-run_lines-2.field-0.0)
    c.items.ensures c.in_err-run_lines-2.ensures.stops)))
    c.from_residual-in_err-run_lines-2.ensures.1

pub returns-clause-done : goal.returns-clause-done
returns-clause-done g c =
    on_ok c.run_lines-3.result _ _
    (λ does. does_script c.every_law.ensures.rounds c.args.plan.now c.args.crew.now 1000
    (running_at c.args.fleet.now (g.K.Sink.written c.args.out.now) (g.K.Sink.faults c.args.out.now))
    (running_at c.run_lines.new.fleet (g.K.Sink.written c.run_lines.new.out) (g.K.Sink.faults c.run_lines.new.out))
    (running_at c.run_lines-2.new.fleet (g.K.Sink.written c.run_lines-2.new.out)
    (g.K.Sink.faults c.run_lines-2.new.out))
    (running_at c.run_lines-3.new.fleet (g.K.Sink.written c.run_lines-3.new.out)
    (g.K.Sink.faults c.run_lines-3.new.out)) None
    c.in_ok-run_lines.ensures.done
    (subst (λ ls. DoesAll c.args.plan.now c.args.crew.now ls
    (running_at c.run_lines.new.fleet (g.K.Sink.written c.run_lines.new.out) (g.K.Sink.faults c.run_lines.new.out))
    (running_at c.run_lines-2.new.fleet (g.K.Sink.written c.run_lines-2.new.out)
    (g.K.Sink.faults c.run_lines-2.new.out)) None)
    c.items.ensures c.in_ok-run_lines-2.ensures.done)
    does)
    c.run_lines-3.ensures.done

pub returns-clause-stops : goal.returns-clause-stops
returns-clause-stops g c =
    IfErr-weaker c.run_lines-3.result _ _
    (λ e stops. stops_last c.every_law.ensures.rounds c.args.plan.now c.args.crew.now 1000
    (running_at c.args.fleet.now (g.K.Sink.written c.args.out.now) (g.K.Sink.faults c.args.out.now))
    (running_at c.run_lines.new.fleet (g.K.Sink.written c.run_lines.new.out) (g.K.Sink.faults c.run_lines.new.out))
    (running_at c.run_lines-2.new.fleet (g.K.Sink.written c.run_lines-2.new.out)
    (g.K.Sink.faults c.run_lines-2.new.out))
    (running_at c.run_lines-3.new.fleet (g.K.Sink.written c.run_lines-3.new.out)
    (g.K.Sink.faults c.run_lines-3.new.out)) e
    c.in_ok-run_lines.ensures.done
    (subst (λ ls. DoesAll c.args.plan.now c.args.crew.now ls
    (running_at c.run_lines.new.fleet (g.K.Sink.written c.run_lines.new.out) (g.K.Sink.faults c.run_lines.new.out))
    (running_at c.run_lines-2.new.fleet (g.K.Sink.written c.run_lines-2.new.out)
    (g.K.Sink.faults c.run_lines-2.new.out)) None)
    c.items.ensures c.in_ok-run_lines-2.ensures.done)
    stops)
    c.run_lines-3.ensures.stops

pub returns-clause-views : goal.returns-clause-views
returns-clause-views g c =
    let first = c.args.fleet.now.stations in
    let then = c.run_lines.new.fleet.stations in
    let lines = c.run_lines-2.new.fleet.stations in
    let last = c.run_lines-3.new.fleet.stations in
    on_ok c.run_lines-3.result _ (StayInView first last)
    (λ stay. stay-then first then last c.in_ok-run_lines.ensures.views
    (stay-then then lines last c.in_ok-run_lines-2.ensures.views stay))
    c.run_lines-3.ensures.views
