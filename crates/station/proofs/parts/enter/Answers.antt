use Rattle.std.proofs.Common.{◌∷◌, [], ◌++◌, length, refl, sym, ap, ◌∙◌, subst, arith}
use Rattle.std.specs.Prelude.{Some}
use Rattle.control_channels.specs.Controllers.{ControllerState, IsControllerStep}
use Rattle.station.specs.Fits.{station_state}
use Rattle.station.proofs.Fitting.{few-steps, frames-bear, may-send, parts-entered}
use Rattle.station.proofs.parts.enter.Goals as goal

pub react-requires-clause-few : goal.react-requires-clause-few
react-requires-clause-few g c =
    λ κs le.
    few-steps (station_state c.args.parts.now) c.args.stamp c.requires.able c.requires.fit.station

pub returns-in_default-clause-enters : goal.returns-in_default-clause-enters
returns-in_default-clause-enters g c =
    λ i. record (station_state c.args.parts.now) {
      controller = c.in_default.ensures.err i;
      log =
          c.react.ensures.log i;
    }

pub send-requires-clause-may : goal.send-requires-clause-may
send-requires-clause-may g c =
    let parts = c.args.parts.now in
    may-send parts.controller.node.place parts.controller.steps parts.clock c.args.stamp
    (length c.in-Ok.frames) parts.links.items
    (few-steps (station_state parts) c.args.stamp c.requires.able c.requires.fit.station) c.in-Ok.ensures.few
    (omega (arith, c.requires.above)) c.requires.fit.station.links

pub send-requires-clause-bears : goal.send-requires-clause-bears
send-requires-clause-bears g c =
    frames-bear c.args.parts.now.controller c.react.new.controller c.args.input.now c.in-Ok.frames
    c.requires.read c.in-Ok.ensures.step

pub returns-clause-enters : goal.returns-clause-enters
returns-clause-enters g c = (
  record {
    frames = c.in-Ok.frames;
    step =
        subst (λ (d : ControllerState). IsControllerStep c.args.parts.now.controller d c.args.input.now c.in-Ok.frames)
        (sym c.send.ensures.same) c.in-Ok.ensures.step;
    few =
        few-steps (station_state c.args.parts.now) c.args.stamp c.requires.able c.requires.fit.station;
    above = c.requires.above;
    clock = refl;
    log =
        c.write.ensures
        ∙ (λ i. c.react.ensures.log i
        ++ record { stamp = c.args.stamp; node = Some (c.requires.fit.me i); event = c.args.event } ∷ []);
    links = c.send.ensures.links;
    desk = refl;
    spare = refl;
    held = refl;
    lines = refl;
  },
  c.in-Ok.ensures.one,
)

pub returns-clause-fit : goal.returns-clause-fit
unfolding returns-clause-enters
returns-clause-fit g c =
    parts-entered c.args.input.now c.args.event c.args.stamp c.args.parts.now _ (returns-clause-enters g c).0
    c.in-Ok.ensures.few
    (ap (λ (d : ControllerState). d.node.place) c.send.ensures.same ∙ c.react.ensures.place) refl c.requires.fit
