use Rattle.std.proofs.Common.{◌+◌, refl, sym, ◌∙◌, subst}
use Rattle.ason_base.specs.declared.commands.Event.TheVariants.{Desk}
use Rattle.control_channels.specs.declared.inputs.CoreInput.TheVariants as input
use Rattle.station.specs.{Entering.Enters, Fits.station_state}
use Rattle.station.proofs.{Fitting.desk-fits, Stepping.{first-of, given-sends, given-spare, item-fewer, item-full, item-given, sending-none, with_desk}}
use Rattle.station.proofs.items.handle_first.Goals as goal

pub returns-then-not-is_able-clause-on : goal.returns-then-not-is_able-clause-on
returns-then-not-is_able-clause-on g c =
    let s = station_state c.args.parts.now in
    let f = first-of c.args.parts.now.desk.items c.requires.some in
    item-full s f.item f.rest (sym c.is_able.ensures ∙ c.if-not-is_able.true) f.is

pub returns-then-not-is_able-clause-sends : goal.returns-then-not-is_able-clause-sends
returns-then-not-is_able-clause-sends g c = sending-none (station_state c.args.parts.now)

pub settle-requires : goal.settle-requires
settle-requires g c =
    given-spare c.enter-ended.result _ _ _ (with_desk (station_state c.args.parts.now) c.pop.new.self)
    (station_state c.enter-ended.new.parts) c.pop.ensures.room c.enter-ended.ensures.enters

pub returns-clause-on : goal.returns-clause-on
returns-clause-on g c =
    let s = station_state c.args.parts.now in
    let m = station_state c.enter-ended.new.parts in
    item-given c.enter-ended.result s m c.pop.result c.pop.new.self c.settle.new.desk
    (sym c.is_able.ensures ∙ c.if-not-is_able.false) c.pop.ensures.first
    (subst
    (λ x. Enters c.enter-ended.result (input.Desk c.pop.result) (Desk x) (s.clock + 1) (with_desk s c.pop.new.self) m)
    c.requires.fit.me c.enter-ended.ensures.enters) (c.settle.ensures c.pop.result refl)

pub returns-clause-fewer : goal.returns-clause-fewer
returns-clause-fewer g c =
    item-fewer c.enter-ended.result _ _ _ (with_desk (station_state c.args.parts.now) c.pop.new.self)
    (station_state c.enter-ended.new.parts) c.args.parts.now.desk.items c.pop.result c.settle.new.desk
    c.pop.ensures.first
    c.enter-ended.ensures.enters (c.settle.ensures c.pop.result refl)

pub returns-clause-sends : goal.returns-clause-sends
returns-clause-sends g c =
    let f =
    given-sends c.enter-ended.result _ _ _ (with_desk (station_state c.args.parts.now) c.pop.new.self)
    (station_state c.enter-ended.new.parts) c.enter-ended.ensures.enters in
    record { links = f.links; lines = f.lines; grows = f.grows }

pub returns-clause-fit : goal.returns-clause-fit
returns-clause-fit g c = desk-fits c.enter-ended.new.parts c.settle.new.desk c.enter-ended.ensures.fit
