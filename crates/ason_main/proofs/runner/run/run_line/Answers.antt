use Rattle.std.proofs.Common.{◌<◌, ◌∙◌, ◌∷◌, [], ℕ, length, refl, subst, sym, take}
use Rattle.std.specs.Io.KnownBytes.{Appends}
use Rattle.ason_base.proofs.Results.{passed_on}
use Rattle.ason_main.specs.Running.{Stops, StopsAll, running_at}
use Rattle.ason_main.proofs.OneLine.{does_line, does_silently, ends_line, fails_line, stops_line}
use Rattle.ason_main.proofs.runner.run.run_line.Goals as goal

pub returns-in_err-do_line-clause-stops : goal.returns-in_err-do_line-clause-stops
returns-in_err-do_line-clause-stops g c =
    let p = c.args.plan.now in
    let how = c.args.crew.now in
    passed_on c.from_residual.result _ _
    (λ e same.
    stops_line p how c.args.line.now c.args.fleet.now c.do_line.new.fleet
    (g.K.Sink.written c.args.out.now) (g.K.Sink.faults c.args.out.now) e
    (subst (Stops p.topology how.workers c.args.line.now c.args.fleet.now c.do_line.new.fleet) (sym same)
    (c.in_err-do_line.ensures.stops p.topology)))
    c.from_residual.ensures.1

pub returns-then-not-tables-clause-done : goal.returns-then-not-tables-clause-done
returns-then-not-tables-clause-done g c =
    let p = c.args.plan.now in
    does_silently p c.args.crew.now c.args.line.now c.args.fleet.now c.do_line.new.fleet
    (g.K.Sink.written c.args.out.now) (g.K.Sink.faults c.args.out.now)
    (sym c.tables.ensures ∙ c.if-not-tables.true) (c.in_ok-do_line.ensures.done p.topology)

pub returns-in_err-text-clause-stops : goal.returns-in_err-text-clause-stops
returns-in_err-text-clause-stops g c =
    let p = c.args.plan.now in
    passed_on c.from_residual-in_err-text.result _ _
    (λ e same.
    subst (StopsAll p c.args.crew.now (c.args.line.now ∷ [])
    (running_at c.args.fleet.now (g.K.Sink.written c.args.out.now) (g.K.Sink.faults c.args.out.now))
    (running_at c.do_line.new.fleet (g.K.Sink.written c.args.out.now) (g.K.Sink.faults c.args.out.now))) (sym same)
    (ends_line p c.args.crew.now c.args.line.now c.args.fleet.now c.do_line.new.fleet
    (g.K.Sink.written c.args.out.now) (g.K.Sink.faults c.args.out.now)
    (c.in_ok-do_line.ensures.done p.topology)))
    c.from_residual-in_err-text.ensures.1

pub returns-in-Ok-clause-done : goal.returns-in-Ok-clause-done
returns-in-Ok-clause-done g c =
    let p = c.args.plan.now in
    does_line p c.args.crew.now c.args.line.now c.args.fleet.now c.do_line.new.fleet
    (g.K.Sink.written c.args.out.now) (g.K.Sink.written c.write_all.new.out)
    (g.K.Sink.faults c.args.out.now) (g.K.Sink.faults c.write_all.new.out) c.in_ok-text.text.items
    (sym c.tables.ensures ∙ c.if-not-tables.false) (c.in_ok-do_line.ensures.done p.topology) c.in_ok-text.ensures
    (subst (Appends (g.K.Sink.written c.args.out.now) (g.K.Sink.written c.write_all.new.out)) c.deref.ensures.value
    c.in-Ok.ensures.all)
    c.write_all.ensures.rises

pub returns-clause-stops : goal.returns-clause-stops
returns-clause-stops g c =
    let p = c.args.plan.now in
    fails_line p c.args.crew.now c.args.line.now c.args.fleet.now c.do_line.new.fleet
    (g.K.Sink.written c.args.out.now) (g.K.Sink.written c.write_all.new.out)
    (g.K.Sink.faults c.args.out.now) (g.K.Sink.faults c.write_all.new.out) c.in_ok-text.text.items
    (sym c.tables.ensures ∙ c.if-not-tables.false) (c.in_ok-do_line.ensures.done p.topology) c.in_ok-text.ensures
    (subst (λ text. (n : ℕ) × (n < length text)
    × Appends (g.K.Sink.written c.args.out.now) (g.K.Sink.written c.write_all.new.out) (take n text))
    c.deref.ensures.value c.in-Err.ensures.prefix)
    (c.in-Err.ensures.failed refl)
