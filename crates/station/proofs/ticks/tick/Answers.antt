use Rattle.std.proofs.Common.{◌+◌, cond, map, refl, sym, ap, ◌∙◌, subst}
use Rattle.std.specs.Prelude.{Err, Ok}
use Rattle.ason_base.specs.declared.commands.Event.TheVariants.{Tick}
use Rattle.control_channels.specs.declared.inputs.CoreInput.TheVariants as input
use Rattle.round_rules.specs.{Phases.tick_phase, Entered.{HasEntered, me_of}, Stands.parcel_ticked}
use Rattle.station.specs.declared.halts.Halt.TheVariants as halt
use Rattle.station.specs.{Fits.station_state, Leads.StationLeads}
use Rattle.station.proofs.{Ageing.{aged-parts, may-age}, Stepping.{given-sends, passed-leads, sending-entered, sending-none, tick-full, tick-leads, tick-none, tick-refused}}
use Rattle.station.proofs.ticks.tick.Goals as goal

pub returns-then-not-tick-clause-on : goal.returns-then-not-tick-clause-on
returns-then-not-tick-clause-on g c =
    let s = station_state c.args.parts.now in
    subst (λ b. StationLeads (Ok tt) (tick_phase b) s s) (sym c.if-not-tick.true)
    (tick-none s)

pub returns-then-not-tick-clause-held : goal.returns-then-not-tick-clause-held
returns-then-not-tick-clause-held g c =
    let hs = c.args.parts.now.held.items in
    sym (ap (λ b. cond b (map parcel_ticked hs) hs) c.if-not-tick.true)

pub returns-then-not-tick-clause-sends : goal.returns-then-not-tick-clause-sends
returns-then-not-tick-clause-sends g c = sending-none (station_state c.args.parts.now)

pub returns-then-not-is_able-clause-on : goal.returns-then-not-is_able-clause-on
returns-then-not-is_able-clause-on g c =
    let s = station_state c.args.parts.now in
    subst (λ b. StationLeads (Err halt.AtLimit) (tick_phase b) s s) (sym c.if-not-tick.false)
    (tick-full s (sym c.is_able.ensures ∙ c.if-not-is_able.true))

pub returns-then-not-is_able-clause-sends : goal.returns-then-not-is_able-clause-sends
returns-then-not-is_able-clause-sends g c = sending-none (station_state c.args.parts.now)

pub age-requires : goal.age-requires
age-requires g c =
    let parts = c.enter.new.parts in
    may-age parts.controller.node.place parts.controller.steps parts.held.items c.enter.ensures.fit.station.most
    c.enter.ensures.fit.station.held

pub returns-clause-on : goal.returns-clause-on
returns-clause-on g c =
    let s = station_state c.args.parts.now in
    let m = station_state c.enter.new.parts in
    let r : HasEntered input.Tick (Tick (me_of s)) (s.clock + 1) s m =
    subst (λ x. HasEntered input.Tick (Tick x) (s.clock + 1) s m) c.requires.fit.me c.in_ok-enter.ensures.enters.0 in
    subst (λ b. StationLeads (Ok tt) (tick_phase b) s (record m { held = c.age.new.held.items }))
    (sym c.if-not-tick.false)
    (tick-leads s m c.age.new.held.items (sym c.is_able.ensures ∙ c.if-not-is_able.false) r
    (c.age.ensures ∙ ap (map parcel_ticked) r.held))

pub returns-clause-held : goal.returns-clause-held
returns-clause-held g c =
    let hs = c.args.parts.now.held.items in
    c.age.ensures ∙ ap (map parcel_ticked) c.in_ok-enter.ensures.enters.0.held
    ∙ sym (ap (λ b. cond b (map parcel_ticked hs) hs) c.if-not-tick.false)

pub returns-clause-sends : goal.returns-clause-sends
returns-clause-sends g c =
    let f = sending-entered _ _ _ _ _ c.in_ok-enter.ensures.enters.0 in
    record { links = f.links; lines = f.lines; grows = f.grows }

pub returns-clause-fit : goal.returns-clause-fit
returns-clause-fit g c =
    aged-parts c.args.parts.now c.enter.new.parts _ c.requires.fit c.enter.ensures.fit
    c.in_ok-enter.ensures.enters.0.step.steps c.in_ok-enter.ensures.enters.0.held c.age.ensures refl refl

pub returns-in_err-enter-clause-on : goal.returns-in_err-enter-clause-on
returns-in_err-enter-clause-on g c =
    let s = station_state c.args.parts.now in
    let m = station_state c.enter.new.parts in
    passed-leads c.from_residual.result _ (tick_phase c.args.tick) s m c.from_residual.ensures.1
    (tick-refused _ _ _ _ c.args.tick s m c.in_err-enter.ensures.enters)

pub returns-in_err-enter-clause-sends : goal.returns-in_err-enter-clause-sends
returns-in_err-enter-clause-sends g c =
    given-sends (Err _) _ _ _ (station_state c.args.parts.now) (station_state c.enter.new.parts)
    c.in_err-enter.ensures.enters
