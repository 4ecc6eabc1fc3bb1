use Rattle.std.proofs.Common.{subst, sym}
use Rattle.std.specs.Prelude.{IfErr, None, OnOk}
use Rattle.plan_reader.specs.declared.lines.Line.TheVariants as said
use Rattle.ason_main.specs.Running.{Does, Stops}
use Rattle.ason_main.proofs.{InView.stay-self, Lines.show_does}
use Rattle.ason_main.proofs.runner.lines.do_line.Goals as goal

pub returns-in-Post-clause-done : goal.returns-in-Post-clause-done
returns-in-Post-clause-done g c t =
    let w = c.args.crew.now.workers in
    subst (λ l. OnOk c.post_line.result (Does t w l c.args.fleet.now c.post_line.new.fleet None)) (sym c.in-Post.is)
    (c.post_line.ensures.done t w)

pub returns-in-Post-clause-stops : goal.returns-in-Post-clause-stops
returns-in-Post-clause-stops g c t =
    let w = c.args.crew.now.workers in
    subst (λ l. IfErr c.post_line.result (Stops t w l c.args.fleet.now c.post_line.new.fleet)) (sym c.in-Post.is)
    (c.post_line.ensures.stops t w)

pub returns-in-Disturb-clause-stops : goal.returns-in-Disturb-clause-stops
returns-in-Disturb-clause-stops g c t =
    let w = c.args.crew.now.workers in
    subst (λ l. IfErr c.disturb_line.result (Stops t w l c.args.fleet.now c.disturb_line.new.fleet))
    (sym c.in-Disturb.is) (c.disturb_line.ensures.stops t w)

pub returns-in-Noise-clause-stops : goal.returns-in-Noise-clause-stops
returns-in-Noise-clause-stops g c t =
    let w = c.args.crew.now.workers in
    subst (λ l. IfErr c.noise_line.result (Stops t w l c.args.fleet.now c.noise_line.new.fleet)) (sym c.in-Noise.is)
    (subst (λ bytes. IfErr c.noise_line.result
    (Stops t w (said.Noise c.in-Noise.from c.in-Noise.to bytes) c.args.fleet.now c.noise_line.new.fleet))
    c.items.ensures (c.noise_line.ensures.stops t w))

pub returns-in-Settle-clause-done : goal.returns-in-Settle-clause-done
returns-in-Settle-clause-done g c t =
    let w = c.args.crew.now.workers in
    subst (λ l. OnOk c.make_rounds.result (Does t w l c.args.fleet.now c.make_rounds.new.fleet None))
    (sym c.in-Settle.is) (c.make_rounds.ensures.done t)

pub returns-in-Settle-clause-stops : goal.returns-in-Settle-clause-stops
returns-in-Settle-clause-stops g c t =
    let w = c.args.crew.now.workers in
    subst (λ l. IfErr c.make_rounds.result (Stops t w l c.args.fleet.now c.make_rounds.new.fleet))
    (sym c.in-Settle.is) (c.make_rounds.ensures.stops t)

pub returns-in-Wait-clause-done : goal.returns-in-Wait-clause-done
returns-in-Wait-clause-done g c t =
    let w = c.args.crew.now.workers in
    subst (λ l. OnOk c.make_rounds-in-Wait.result (Does t w l c.args.fleet.now c.make_rounds-in-Wait.new.fleet None))
    (sym c.in-Wait.is) (c.make_rounds-in-Wait.ensures.done t)

pub returns-in-Wait-clause-stops : goal.returns-in-Wait-clause-stops
returns-in-Wait-clause-stops g c t =
    let w = c.args.crew.now.workers in
    subst (λ l. IfErr c.make_rounds-in-Wait.result (Stops t w l c.args.fleet.now c.make_rounds-in-Wait.new.fleet))
    (sym c.in-Wait.is) (c.make_rounds-in-Wait.ensures.stops t)

pub returns-in-Show-clause-done : goal.returns-in-Show-clause-done
returns-in-Show-clause-done g c t =
    let w = c.args.crew.now.workers in
    subst (λ l. Does t w l c.args.fleet.now c.args.fleet.now None) (sym c.in-Show.is)
    (show_does t w c.args.fleet.now)

pub returns-in-Show-clause-views : goal.returns-in-Show-clause-views
returns-in-Show-clause-views g c = stay-self c.args.fleet.now.stations
