use Rattle.std.proofs.Common.{subst, sym, ◌∙◌}
use Rattle.ason_base.proofs.Results.{passed_on}
use Rattle.ason_main.specs.Running.{Stops, rounds_line}
use Rattle.ason_main.proofs.{InView.{made-rounded, round-stay, stay-self, stay-then}, RoundLines.{LineRounds, rounds_done, rounds_none, rounds_rest, rounds_stay, rounds_step, rounds_stop}, Rounding.{making_begins, making_ends, making_next, making_rests, making_stops}}
use Rattle.ason_main.proofs.runner.rounds.make_rounds.Goals as goal

pub loop-made-init : goal.loop-made-init
loop-made-init g c =
    let b = c.args.until_quiet in
    let w = c.args.crew.now.workers in (
      λ t. making_begins (LineRounds b t w) t w (rounds_none b t w) (rounds_stay b t w) c.args.rounds
          c.args.fleet.now,
      stay-self c.args.fleet.now.stations,
    )

pub returns-then-rests-clause-done : goal.returns-then-rests-clause-done
returns-then-rests-clause-done g c t =
    let b = c.args.until_quiet in
    let w = c.args.crew.now.workers in
    rounds_done b t w c.args.rounds c.args.fleet.now c.loop-made.fleet
    (making_rests (LineRounds b t w) t w (rounds_none b t w) (rounds_stay b t w) c.args.rounds c.loop-made._made
    c.args.fleet.now c.loop-made.fleet (c.loop-made.invariant.0 t)
    (rounds_rest b t w c.args.rounds c.loop-made._made c.loop-made.fleet c.loop-made-test.true
    (λ s at. sym (c.rests.ensures t s.lines s.made at.stands) ∙ c.if-rests.true)))

pub returns-in_err-round-clause-stops : goal.returns-in_err-round-clause-stops
returns-in_err-round-clause-stops g c t =
    let b = c.args.until_quiet in
    let w = c.args.crew.now.workers in
    passed_on c.from_residual.result _ _
    (λ e same. subst (Stops t w (rounds_line b c.args.rounds) c.args.fleet.now c.round.new.fleet) (sym same)
    (rounds_stop b t w c.args.rounds c.args.fleet.now c.round.new.fleet c.in_err-round.field-0.0
    (making_stops (LineRounds b t w) t w (rounds_none b t w) (rounds_stay b t w) c.args.rounds c.loop-made._made
    c.args.fleet.now c.loop-made.fleet c.round.new.fleet c.in_err-round.field-0.0 c.loop-made-test.true
    (c.loop-made.invariant.0 t)
    (rounds_step b t w c.loop-made.fleet (λ s at. sym (c.rests.ensures t s.lines s.made at.stands) ∙
    c.if-rests.false)) c.in_err-round.ensures.rounds)))
    c.from_residual.ensures.1

pub loop-made-preserved : goal.loop-made-preserved
loop-made-preserved g c =
    let b = c.args.until_quiet in
    let w = c.args.crew.now.workers in
    let n = c.requires.network in (
      λ t. making_next (LineRounds b t w) t w (rounds_none b t w) (rounds_stay b t w) c.args.rounds
          c.loop-made._made c.in_ok-round.field-0 c.args.fleet.now
          c.loop-made.fleet c.round.new.fleet c.loop-made-test.true (c.loop-made.invariant.0 t) (rounds_step b t w
          c.loop-made.fleet (λ s at. sym (c.rests.ensures t s.lines s.made at.stands) ∙ c.if-rests.false))
          c.in_ok-round.ensures.rounds,
      stay-then c.args.fleet.now.stations c.loop-made.fleet.stations c.round.new.fleet.stations
          c.loop-made.invariant.1
          (round-stay c.in_ok-round.field-0 c.loop-made.fleet c.round.new.fleet c.in_ok-round.ensures.publishes
          (made-rounded (LineRounds b n w) n w c.args.rounds c.loop-made._made
          c.in_ok-round.field-0 c.args.fleet.now c.loop-made.fleet c.round.new.fleet c.requires.stage c.requires.stands
          (c.loop-made.invariant.0 n) c.in_ok-round.ensures.rounds)),
    )

pub returns-clause-done : goal.returns-clause-done
returns-clause-done g c t =
    let b = c.args.until_quiet in
    let w = c.args.crew.now.workers in
    rounds_done b t w c.args.rounds c.args.fleet.now c.loop-made.fleet
    (making_ends (LineRounds b t w) t w (rounds_none b t w) (rounds_stay b t w) c.args.rounds c.loop-made._made
    c.args.fleet.now c.loop-made.fleet
    c.loop-made-test.false (c.loop-made.invariant.0 t))
