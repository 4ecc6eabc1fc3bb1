use Rattle.std.proofs.{Common.{length, refl}, lemmas.Option.slice_get_read}
use Rattle.station_rings.specs.LinkStates.{IsTaken}
use Rattle.round_rules.proofs.Places.{changed-set}
use Rattle.station.proofs.links.take_at.Goals as goal

pub returns : goal.returns
returns c =
    let links = c.args.links.now.items in
    let l = c.index_mut-link.result.now in
    changed-set (IsTaken c.take.result) links c.args.place l c.take.new.self
    (slice_get_read links (length links) c.args.place l refl c.requires.place c.index_mut-link.ensures.value)
    c.take.ensures
