use Rattle.fleet.specs.Looks.{IsLinkOfStation}
use Rattle.fleet.proofs.{LooksTwice.looked-connected, Looked.have-looked, Seated.{led-joined, led-read}, Unwatched.met-publishers}
use Rattle.fleet.proofs.looks.look_over.Goals as goal

pub look-requires : goal.look-requires
look-requires c =
    let t = c.requires.seats.0 in
    let all = c.requires.seats.1 in
    led-joined t c.args.seats.now c.args.stations.now c.args.place c.args.link c.index.result.now all
    (led-read t c.args.seats.now c.args.place c.args.link c.index-seats-place.result c.index.result.now all.seated
    c.requires.within c.index-seats-place.is c.requires.link c.index.ensures)

pub returns-clause-looks : goal.returns-clause-looks
returns-clause-looks c t all w links =
    have-looked t c.args.stations.now c.look.new.stations c.args.place c.args.link c.index.result.now all.valid
    (led-read t c.args.seats.now c.args.place c.args.link c.index-seats-place.result c.index.result.now all.seated
    c.requires.within c.index-seats-place.is c.requires.link c.index.ensures) c.look.ensures w links

pub returns-clause-seats : goal.returns-clause-seats
returns-clause-seats c = (
  c.requires.seats.0,
  looked-connected c.requires.seats.0 c.args.seats.now c.args.stations.now c.look.new.stations
      (IsLinkOfStation c.args.place c.args.link) c.requires.seats.1 (λ t all w links.
      have-looked t c.args.stations.now c.look.new.stations c.args.place c.args.link c.index.result.now all.valid
      (led-read t c.args.seats.now c.args.place c.args.link c.index-seats-place.result c.index.result.now all.seated
      c.requires.within c.index-seats-place.is c.requires.link c.index.ensures) c.look.ensures w links),
)

pub returns-clause-publishers : goal.returns-clause-publishers
returns-clause-publishers c =
    met-publishers c.args.place c.args.link c.index.result.now c.args.stations.now c.look.new.stations c.look.ensures
