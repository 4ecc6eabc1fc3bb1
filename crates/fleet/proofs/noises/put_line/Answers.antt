use Rattle.std.proofs.{Common.get_or, lemmas.Option.slice_get-get_or}
use Rattle.station.specs.Watched.{shown_of}
use Rattle.fleet.proofs.Places.{map-back}
use Rattle.fleet.proofs.noises.put_line.Goals as goal

pub returns-clause-shown : goal.returns-clause-shown
returns-clause-shown c =
    let xs = c.args.stations.now in
    let x = get_or xs c.args.place c.index-stations-place.result in
    map-back shown_of xs c.args.place x c.disturb.new.self
    (slice_get-get_or xs c.args.place c.index-stations-place.result c.requires) c.disturb.ensures.shown
