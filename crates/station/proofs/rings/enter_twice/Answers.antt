use Rattle.std.proofs.{Common.{sym, ap, ◌∙◌, subst}, lemmas.Result.err_from_is_err_and}
use Rattle.std.specs.Prelude.{Err}
use Rattle.control_channels.specs.ReadyControllers.{IsFromNeighbour}
use Rattle.station.specs.{Fits.station_state, Rings.GivesTwice}
use Rattle.station.proofs.Given.{first-lost, second-given}
use Rattle.station.proofs.rings.enter_twice.Goals as goal

pub returns-in_err-enter_frame-clause-gives : goal.returns-in_err-enter_frame-clause-gives
returns-in_err-enter_frame-clause-gives g c =
    let s = station_state c.args.parts.now in
    let m = station_state c.enter_frame.new.parts in
    let p = err_from_is_err_and c.from_residual.result c.from_residual.ensures.1 in
    subst (λ r. GivesTwice r c.args.ahead c.args.input.now s m) (sym (p.1 ∙ ap Err p.2))
    (first-lost _ c.args.ahead c.args.input.now s m c.in_err-enter_frame.ensures.gives)

pub returns-then-not-is_able_for-clause-gives : goal.returns-then-not-is_able_for-clause-gives
returns-then-not-is_able_for-clause-gives g c =
    (c.in_ok-enter_frame.ensures.gives, sym c.is_able_for.ensures ∙ c.if-not-is_able_for.true)

pub enter_frame-requires-2-clause-from : goal.enter_frame-requires-2-clause-from
enter_frame-requires-2-clause-from g c =
    λ κs le.
    subst (λ p. IsFromNeighbour p c.args.input.now) (sym c.enter_frame.ensures.place) c.requires.from

pub enter_frame-requires-2-clause-able : goal.enter_frame-requires-2-clause-able
enter_frame-requires-2-clause-able g c = λ κs le. sym c.is_able_for.ensures ∙ c.if-not-is_able_for.false

pub returns-clause-gives : goal.returns-clause-gives
returns-clause-gives g c =
    second-given c.enter_frame-2.result c.args.ahead c.args.input.now (station_state c.args.parts.now)
    (station_state c.enter_frame.new.parts) (station_state c.enter_frame-2.new.parts) c.in_ok-enter_frame.ensures.gives
    (sym c.is_able_for.ensures ∙ c.if-not-is_able_for.false) c.enter_frame-2.ensures.gives
