use Rattle.std.proofs.Common.{[], ◌∷◌, ◌++◌, None, subst, sym}
use Rattle.ason_base.proofs.Results.{passed_on}
use Rattle.script_rules.specs.Stages.{world_at}
use Rattle.ason_main.specs.{Loads.{StopsLoad, phase_part}, Outputs.silent_on, Running.{StopsAll, running_at}}
use Rattle.ason_main.proofs.LoadedParts.{one_part, stage_of, starved_part, stops_part}
use Rattle.ason_main.proofs.loading.load_part.Goals as goal

pub returns-in_err-do_lines-clause-stops : goal.returns-in_err-do_lines-clause-stops
returns-in_err-do_lines-clause-stops g c parts loaded =
    let p = c.args.plan.now in
    let f = c.do_lines.new.fleet in
    passed_on c.from_residual.result _ _
    (λ e same.
    stops_part p parts (phase_part c.args.lines.now c.args.phase) c.args.fleet.now f c.args.text.now.items loaded
    (c.requires.postable (world_at p.topology (stage_of loaded)).posted) e
    (subst (StopsAll p (silent_on 1) c.args.lines.now (running_at c.args.fleet.now None 0) (running_at f None 0))
    (sym same)
    c.in_err-do_lines.ensures.stops))
    c.from_residual.ensures.1

pub returns-in_err-tell_phase-clause-stops : goal.returns-in_err-tell_phase-clause-stops
returns-in_err-tell_phase-clause-stops g c parts loaded =
    let p = c.args.plan.now in
    let f = c.do_lines.new.fleet in
    let x = phase_part c.args.lines.now c.args.phase in
    passed_on c.from_residual-in_err-tell_phase.result _ _
    (λ e same.
    subst (StopsLoad p (parts ++ x ∷ []) f c.tell_phase.new.text.items) (sym same)
    (starved_part p parts x c.args.fleet.now f c.args.text.now.items loaded
    (c.requires.postable (world_at p.topology (stage_of loaded)).posted) c.in_ok-do_lines.ensures.done))
    c.from_residual-in_err-tell_phase.ensures.1

pub returns-clause-done : goal.returns-clause-done
returns-clause-done g c parts loaded =
    let p = c.args.plan.now in
    one_part p parts c.args.lines.now c.args.phase c.args.fleet.now c.do_lines.new.fleet c.args.text.now.items
    c.tell_phase.new.text.items loaded (c.requires.postable (world_at p.topology (stage_of loaded)).posted)
    c.in_ok-do_lines.ensures.done c.in_ok-tell_phase.ensures
