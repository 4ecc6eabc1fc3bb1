use Rattle.std.proofs.Common.{◌+◌, ◌++◌, ◌∷◌, [], refl, ap, ◌∙◌, arith}
use Rattle.std.specs.Prelude.{Some}
use Rattle.ason_base.specs.{declared.commands.Entry.Entry, declared.commands.Event.TheVariants.Noise}
use Rattle.control_channels.specs.declared.inputs.CoreInput.TheVariants as input
use Rattle.round_rules.specs.{Entered.{HasEntered, me_of}, States.StationState}
use Rattle.station.specs.Fits.{station_state}
use Rattle.station.proofs.{Fitting.parts-entered, Hearing.{heard, near-to, noise-entered}, noises.noise.Goals.After-write}
use Rattle.station.proofs.noises.noise.Goals as goal

pub hear-requires-clause-near : goal.hear-requires-clause-near
hear-requires-clause-near c =
    let s = station_state c.args.parts.now in
    near-to s.controller.node.place s.controller.steps s.clock c.args.from s.links c.requires.fit.station.links
    c.requires.near

-- the bytes came to the station
abbrev entered : (c : After-write) → HasEntered (input.Frame c.args.from c.args.bytes.now)
    (Noise (me_of (station_state c.args.parts.now)) c.args.from c.args.bytes.now) (c.args.parts.now.clock + 1)
    (station_state c.args.parts.now)
    (record (station_state c.args.parts.now) {
      controller = c.hear.new.controller;
      clock = c.args.parts.now.clock + 1;
      log = c.write.new.log.items;
    })
entered c =
    let s = station_state c.args.parts.now in
    let u = c.args.from in
    let me = c.args.parts.now.me in
    let entry : Entry = record { stamp = s.clock + 1; node = Some me; event = Noise me u c.in_ok-written.written } in
    let m : StationState =
    record s { controller = c.hear.new.controller; clock = s.clock + 1; log = c.write.new.log.items } in
    noise-entered u me c.args.bytes.now c.in_ok-written.written s m c.in_ok-written.ensures c.requires.fit.me
    (omega (arith, c.requires.room, c.requires.fit.station.count)) c.in_ok-hear.ensures.step
    (ap (λ xs. record s { controller = c.hear.new.controller; clock = s.clock + 1; log = xs })
    (c.write.ensures ∙ ap (λ xs. xs ++ entry ∷ []) c.reserve.ensures.items))

pub returns-clause-ok : goal.returns-clause-ok
returns-clause-ok c =
    heard c.args.from c.args.bytes.now (station_state c.args.parts.now) _ c.requires.nothing c.requires.near refl
    (entered (goal.at.returns-clause-ok c).After-write)

pub returns-clause-fit : goal.returns-clause-fit
returns-clause-fit c =
    let s = station_state c.args.parts.now in
    parts-entered (input.Frame c.args.from c.args.bytes.now) (Noise (me_of s) c.args.from c.args.bytes.now)
    (s.clock + 1) c.args.parts.now _ (entered (goal.at.returns-clause-fit c).After-write) (omega arith)
    c.hear.ensures.place refl c.requires.fit
