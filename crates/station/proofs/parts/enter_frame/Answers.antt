use Rattle.std.proofs.Common.{◌+◌, length, ap, ◌∙◌, subst}
use Rattle.ason_base.specs.declared.commands.Event.TheVariants.{Deliver}
use Rattle.round_rules.specs.Entered.{able, me_of}
use Rattle.station.specs.{Entering.Enters, Fits.station_state}
use Rattle.station.proofs.Stepping.{above-max}
use Rattle.station.proofs.parts.enter_frame.Goals as goal

pub enter-requires-clause-able : goal.enter-requires-clause-able
enter-requires-clause-able g c =
    λ κs le.
    ap (λ k. able (length c.args.parts.now.log.items) (k + 1)) c.max-stamp.ensures ∙ c.requires.able

pub enter-requires-clause-above : goal.enter-requires-clause-above
enter-requires-clause-above g c = λ κs le. above-max _ _ c.max-stamp.result c.max-stamp.ensures

pub returns-clause-gives : goal.returns-clause-gives
returns-clause-gives g c =
    let s = station_state c.args.parts.now in
    let m = station_state c.enter.new.parts in
    let i = c.args.input.now in
    subst (λ k. Enters c.enter.result i (Deliver (me_of s) c.args.from c.args.head.number) (k + 1) s m)
    c.max-stamp.ensures
    (subst (λ x. Enters c.enter.result i (Deliver x c.args.from c.args.head.number) (c.max-stamp.result + 1) s m)
    c.requires.fit.me c.enter.ensures.enters)
