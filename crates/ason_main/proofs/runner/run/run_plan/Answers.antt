use Rattle.std.proofs.Common.{None, subst, sym, ◌∙◌}
use Rattle.std.specs.Prelude.{IfErr, OnOk}
use Rattle.script_rules.specs.Outputs.{How, script_of}
use Rattle.ason_main.specs.{Outputs.IsRan, Running.{DoesAll, RunState, StopsAll, running_at}}
use Rattle.ason_main.proofs.PlanRuns.{if_ended, is_ran}
use Rattle.ason_main.proofs.runner.run.run_plan.Goals as goal

pub returns-clause-ran : goal.returns-clause-ran
returns-clause-ran g c =
    let p = c.args.plan.now in
    let f = c.run_script.new.fleet in
    let how : How = record { workers = c.args.workers; tables = c.args.tables } in
    let same = c.beside-crew.ensures ∙ c.new.ensures in
    let a : RunState =
    running_at c.args.fleet.now (g.K.Sink.written c.args.out.now) (g.K.Sink.faults c.args.out.now) in
    let b : RunState = running_at f (g.K.Sink.written c.run_script.new.out) (g.K.Sink.faults c.run_script.new.out) in
    subst (IsRan g.K.Sink.written g.K.Sink.faults p how f c.args.out.now c.run_script.new.out) (sym c.ran_of.ensures)
    (is_ran g.K.Sink.written g.K.Sink.faults c.every_law.ensures p how c.args.fleet.now f c.args.out.now
    c.run_script.new.out (record { stands = c.requires.new; postable = c.requires.postable }) c.run_script.result
    (subst (λ (h : How). OnOk c.run_script.result (DoesAll p h (script_of p) a b None)) same
    c.run_script.ensures.done)
    (subst (λ (h : How). IfErr c.run_script.result (StopsAll p h (script_of p) a b)) same
    c.run_script.ensures.stops))

pub returns-clause-views : goal.returns-clause-views
returns-clause-views g c ended =
    if_ended c.run_script.result _ c.run_script.ensures.views (sym c.ran_of.ensures ∙ ended)
