use Rattle.std.proofs.Common.{◌∙◌, subst, sym}
use Rattle.ason_base.proofs.Results.{passed_on}
use Rattle.plan_reader.specs.declared.lines.Line.TheVariants as said
use Rattle.ason_main.specs.Running.{Stops}
use Rattle.ason_main.proofs.{InView.noise-stay, Lines.line_stays, Noises.{noise_does, noise_stops}}
use Rattle.ason_main.proofs.runner.lines.noise_line.Goals as goal

pub returns-then-full-clause-stops : goal.returns-then-full-clause-stops
returns-then-full-clause-stops c t workers =
    noise_stops c.every_law.ensures.full t workers c.args.from c.args.to c.args.bytes.now c.args.fleet.now
    (sym c.if-full.true ∙ c.full.ensures)

pub returns-in_err-noise-clause-stops : goal.returns-in_err-noise-clause-stops
returns-in_err-noise-clause-stops c t workers =
    let line = said.Noise c.args.from c.args.to c.args.bytes.now in
    passed_on c.from_residual.result _ _
    (λ e same.
    subst (Stops t workers line c.args.fleet.now c.noise.new.self) (sym same)
    (line_stays t workers line c.args.fleet.now c.noise.new.self c.in_err-noise.ensures.err))
    c.from_residual.ensures.1

pub returns-clause-done : goal.returns-clause-done
returns-clause-done c t workers =
    noise_does c.every_law.ensures.full t workers c.args.from c.args.to c.args.bytes.now c.args.fleet.now
    c.noise.new.self (sym c.if-full.false ∙ c.full.ensures) c.in_ok-noise.ensures.on

pub returns-clause-views : goal.returns-clause-views
returns-clause-views c =
    noise-stay c.args.fleet.now.stations c.noise.new.self.stations c.noise.ensures.shown
