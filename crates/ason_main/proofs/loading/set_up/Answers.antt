use Rattle.std.proofs.{Common.{None, refl, subst, sym}, lemmas.Result.IfErr-weaker}
use Rattle.ason_base.proofs.Results.{on_ok, passed_on}
use Rattle.script_rules.specs.Stages.{new_stage}
use Rattle.ason_main.specs.{Loads.settling, Outputs.silent_on, Running.{CanDoAll, DoesAll, StopsAll, running_at}}
use Rattle.ason_main.proofs.Scripts.{can_then, does_both, stops_early, stops_later}
use Rattle.ason_main.proofs.loading.set_up.Goals as goal

pub do_lines-requires-after_bounds : goal.do_lines-requires-after_bounds
do_lines-requires-after_bounds g c lives bounds =
    record { stage = new_stage; stands = record { stands = c.requires.new; going = refl }; can = (tt, tt) }

pub do_lines-requires-2-after_bounds : goal.do_lines-requires-2-after_bounds
do_lines-requires-2-after_bounds g c lives bounds =
    let p = c.args.plan.now in
    let f = c.do_lines.new.fleet in
    subst (CanDoAll p.topology f) (sym c.items.ensures)
    (can_then c.every_law.ensures.rounds p (silent_on 1) settling p.lines (running_at c.args.fleet.now None 0)
    (running_at f None 0)
    c.in_ok-do_lines.ensures.done
    (record {
      stage = new_stage;
      stands = record { stands = c.requires.new; going = refl };
      can = (tt, c.requires.postable);
    }))

pub returns-in_err-do_lines-clause-stops : goal.returns-in_err-do_lines-clause-stops
returns-in_err-do_lines-clause-stops g c =
    let p = c.args.plan.now in
    let f = c.do_lines.new.fleet in
    passed_on c.from_residual.result _ _
    (λ e same.
    stops_early p (silent_on 1) settling p.lines (running_at c.args.fleet.now None 0) (running_at f None 0) e
    (subst (StopsAll p (silent_on 1) settling (running_at c.args.fleet.now None 0) (running_at f None 0)) (sym same)
    c.in_err-do_lines.ensures.stops))
    c.from_residual.ensures.1

pub returns-clause-done : goal.returns-clause-done
returns-clause-done g c =
    let p = c.args.plan.now in
    let f = c.do_lines.new.fleet in
    let h = c.do_lines-2.new.fleet in
    on_ok c.do_lines-2.result _ _
    (λ does.
    does_both c.every_law.ensures.rounds p (silent_on 1) settling p.lines (running_at c.args.fleet.now None 0)
    (running_at f None 0)
    (running_at h None 0) None c.in_ok-do_lines.ensures.done
    (subst (λ ls. DoesAll p (silent_on 1) ls (running_at f None 0) (running_at h None 0) None) c.items.ensures does))
    c.do_lines-2.ensures.done

pub returns-clause-stops : goal.returns-clause-stops
returns-clause-stops g c =
    let p = c.args.plan.now in
    let f = c.do_lines.new.fleet in
    let h = c.do_lines-2.new.fleet in
    IfErr-weaker c.do_lines-2.result _ _
    (λ e stops.
    stops_later c.every_law.ensures.rounds p (silent_on 1) settling p.lines (running_at c.args.fleet.now None 0)
    (running_at f None 0)
    (running_at h None 0) e c.in_ok-do_lines.ensures.done
    (subst (λ ls. StopsAll p (silent_on 1) ls (running_at f None 0) (running_at h None 0) e) c.items.ensures stops))
    c.do_lines-2.ensures.stops
