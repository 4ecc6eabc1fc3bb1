use Rattle.std.proofs.Common.{[], ◌∷◌, ◌++◌, None, subst, sym}
use Rattle.ason_base.proofs.Results.{passed_on}
use Rattle.load_plan.specs.declared.phases.LoadPhase.TheVariants.{Built}
use Rattle.ason_main.specs.{Loads.{StopsLoad, phase_part, settling}, Outputs.silent_on, Running.{StopsAll, running_at}}
use Rattle.ason_main.proofs.LoadedParts.{can_begin, loaded_none, one_part, starved_part, stops_part}
use Rattle.ason_main.proofs.loading.build.Goals as goal

pub returns-in_err-set_up-clause-stops : goal.returns-in_err-set_up-clause-stops
returns-in_err-set_up-clause-stops g c =
    let p = c.args.plan.now in
    let a = c.args.fleet.now in
    let f = c.set_up.new.fleet in
    passed_on c.from_residual.result _ _
    (λ e same.
    stops_part p [] (phase_part (settling ++ p.lines) Built) a f c.args.text.now.items
    (loaded_none p a c.args.text.now.items c.requires.empty c.requires.new)
    (can_begin p a c.args.text.now.items c.requires.empty c.requires.new (settling ++ p.lines)
    (tt, c.requires.postable)) e
    (subst (StopsAll p (silent_on 1) (settling ++ p.lines) (running_at a None 0) (running_at f None 0)) (sym same)
    c.in_err-set_up.ensures.stops))
    c.from_residual.ensures.1

pub returns-in_err-tell_phase-clause-stops : goal.returns-in_err-tell_phase-clause-stops
returns-in_err-tell_phase-clause-stops g c =
    let p = c.args.plan.now in
    let a = c.args.fleet.now in
    let f = c.set_up.new.fleet in
    let x = phase_part (settling ++ p.lines) Built in
    passed_on c.from_residual-in_err-tell_phase.result _ _
    (λ e same.
    subst (StopsLoad p (x ∷ []) f c.tell_phase.new.text.items) (sym same)
    (starved_part p [] x a f c.args.text.now.items
    (loaded_none p a c.args.text.now.items c.requires.empty c.requires.new)
    (can_begin p a c.args.text.now.items c.requires.empty c.requires.new (settling ++ p.lines)
    (tt, c.requires.postable))
    c.in_ok-set_up.ensures.done))
    c.from_residual-in_err-tell_phase.ensures.1

pub returns-clause-done : goal.returns-clause-done
returns-clause-done g c =
    let p = c.args.plan.now in
    let a = c.args.fleet.now in
    one_part p [] (settling ++ p.lines) Built a c.set_up.new.fleet c.args.text.now.items c.tell_phase.new.text.items
    (loaded_none p a c.args.text.now.items c.requires.empty c.requires.new)
    (can_begin p a c.args.text.now.items c.requires.empty c.requires.new (settling ++ p.lines)
    (tt, c.requires.postable))
    c.in_ok-set_up.ensures.done c.in_ok-tell_phase.ensures
