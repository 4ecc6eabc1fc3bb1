use Rattle.std.proofs.Common.{◌≡◌, Some, inr, refl, sym, ap, ◌∙◌, subst}
use Rattle.ason_base.specs.declared.commands.DisturbKind.TheVariants.{Repeat}
use Rattle.round_rules.specs.Lines.{says}
use Rattle.station.specs.{Entering.is_able_for, Fits.station_state}
use Rattle.station.proofs.{Twice.{twice-goes, twice-moves, twice-taken}, Staying.stay-goes, Taking.moving-none}
use Rattle.station.proofs.rings.repeat.Goals as goal

pub returns-then-not-is_able_for-clause-on : goal.returns-then-not-is_able_for-clause-on
returns-then-not-is_able_for-clause-on g c =
    let s = station_state c.args.parts.now in
    let a = c.args.ahead in
    stay-goes a s (Some Repeat) c.requires.ahead (inr refl)
    (subst (λ n. says s.lines a.from n a.head.number ≡ Some Repeat) c.requires.fit.me c.requires.says)
    (sym c.is_able_for.ensures ∙ c.if-not-is_able_for.true)

pub returns-then-not-is_able_for-clause-moves : goal.returns-then-not-is_able_for-clause-moves
returns-then-not-is_able_for-clause-moves g c = moving-none (station_state c.args.parts.now)

pub enter_twice-requires-clause-able : goal.enter_twice-requires-clause-able
enter_twice-requires-clause-able g c =
    λ κs le.
    ap (is_able_for c.args.ahead.head.stamp) c.take_input-input.ensures.taken.rest ∙ sym c.is_able_for.ensures
    ∙ c.if-not-is_able_for.false

pub returns-clause-on : goal.returns-clause-on
returns-clause-on g c =
    let s = station_state c.args.parts.now in
    let a = c.args.ahead in
    twice-goes c.enter_twice.result a _ s (station_state c.take_input-input.new.parts)
    (station_state c.enter_twice.new.parts)
    c.requires.fit.station.apart c.take_input-input.ensures.taken
    (sym c.is_able_for.ensures ∙ c.if-not-is_able_for.false) c.enter_twice.ensures.gives
    (subst (λ n. says s.lines a.from n a.head.number ≡ Some Repeat) c.requires.fit.me c.requires.says)

pub returns-clause-taken : goal.returns-clause-taken
returns-clause-taken g c =
    twice-taken c.enter_twice.result c.args.ahead _ (station_state c.args.parts.now)
    (station_state c.take_input-input.new.parts) (station_state c.enter_twice.new.parts) c.requires.fit.station.apart
    c.take_input-input.ensures.taken (sym c.is_able_for.ensures ∙ c.if-not-is_able_for.false)
    c.enter_twice.ensures.gives

pub returns-clause-moves : goal.returns-clause-moves
returns-clause-moves g c =
    twice-moves c.enter_twice.result c.args.ahead _ (station_state c.args.parts.now)
    (station_state c.take_input-input.new.parts) (station_state c.enter_twice.new.parts) c.requires.fit.station.apart
    c.take_input-input.ensures.taken (sym c.is_able_for.ensures ∙ c.if-not-is_able_for.false)
    c.enter_twice.ensures.gives
