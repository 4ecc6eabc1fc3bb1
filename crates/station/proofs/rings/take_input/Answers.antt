use Rattle.std.proofs.Common.{inl, refl}
use Rattle.round_rules.proofs.Places.{taken-from}
use Rattle.station.specs.Fits.{station_state}
use Rattle.station.proofs.{Fitting.near-at, Frames.taken-bears, Taking.{ahead-below, has-taken, taken-parts}}
use Rattle.station.proofs.rings.take_input.Goals as goal

pub take_at-parcel-requires-clause-place : goal.take_at-parcel-requires-clause-place
take_at-parcel-requires-clause-place c = ahead-below c.args.ahead c.args.parts.now.links.items c.requires.ahead

pub returns-clause-taken : goal.returns-clause-taken
returns-clause-taken c =
    let links = c.take_at-parcel.new.links.items in
    record {
      parcel = c.take_at-parcel.result;
      links = links;
      taken =
          has-taken c.args.ahead c.take_at-parcel.result (station_state c.args.parts.now) links c.requires.ahead
          c.take_at-parcel.ensures;
      given = refl;
      rest = refl;
    }

pub returns-clause-from : goal.returns-clause-from
returns-clause-from c =
    let s = station_state c.args.parts.now in
    near-at s.controller.node.place s.controller.steps s.clock c.args.ahead.place c.args.ahead.from s.links
    c.requires.fit.station.links c.requires.ahead.from

pub returns-clause-read : goal.returns-clause-read
returns-clause-read c =
    let a = c.args.ahead in
    let q = c.take_at-parcel.result in
    let old = c.args.parts.now.links.items in
    let links = c.take_at-parcel.new.links.items in
    inl (taken-bears a.from q a.place old links
    (taken-from q a.from a.place old links c.requires.ahead.from c.take_at-parcel.ensures))

pub returns-clause-fit : goal.returns-clause-fit
returns-clause-fit c =
    taken-parts c.take_at-parcel.result c.args.ahead.place c.args.parts.now _ c.take_at-parcel.new.links.items
    c.take_at-parcel.ensures refl refl c.requires.fit
