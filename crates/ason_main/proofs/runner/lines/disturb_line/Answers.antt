use Rattle.std.proofs.Common.{subst, sym}
use Rattle.ason_base.proofs.Results.{passed_on}
use Rattle.plan_reader.specs.declared.lines.Line.TheVariants as said
use Rattle.ason_main.specs.Running.{Stops}
use Rattle.ason_main.proofs.{InView.shown-stay, Lines.{disturb_does, line_stays}}
use Rattle.ason_main.proofs.runner.lines.disturb_line.Goals as goal

pub returns-in_err-disturb-clause-stops : goal.returns-in_err-disturb-clause-stops
returns-in_err-disturb-clause-stops c t workers =
    passed_on c.from_residual.result _ _
    (λ e same.
    subst (Stops t workers (said.Disturb c.args.line.now) c.args.fleet.now c.disturb.new.self) (sym same)
    (line_stays t workers (said.Disturb c.args.line.now) c.args.fleet.now c.disturb.new.self
    c.in_err-disturb.ensures.err))
    c.from_residual.ensures.1

pub returns-clause-done : goal.returns-clause-done
returns-clause-done c t workers =
    disturb_does t workers c.args.line.now c.args.fleet.now c.disturb.new.self c.in_ok-disturb.ensures.on

pub returns-clause-views : goal.returns-clause-views
returns-clause-views c =
    shown-stay c.args.fleet.now.stations c.disturb.new.self.stations c.disturb.ensures.shown
