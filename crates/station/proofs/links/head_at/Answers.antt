use Rattle.std.proofs.{Common.{length, refl}, lemmas.Option.slice_get_read}
use Rattle.station_rings.specs.LinkStates.{IsFetched}
use Rattle.round_rules.proofs.Places.{changed-set}
use Rattle.station.proofs.Sending.{head-at}
use Rattle.station.proofs.links.head_at.Goals as goal

pub returns-clause-fetched : goal.returns-clause-fetched
returns-clause-fetched c =
    let links = c.args.links.now.items in
    let l = c.index_mut-link.result.now in
    changed-set IsFetched links c.args.place l c.head.new.self
    (slice_get_read links (length links) c.args.place l refl c.requires c.index_mut-link.ensures.value)
    c.head.ensures.fetched

pub returns-clause-head : goal.returns-clause-head
returns-clause-head c =
    let links = c.args.links.now.items in
    let l = c.index_mut-link.result.now in
    head-at c.head.result links c.args.place l c.head.new.self
    (slice_get_read links (length links) c.args.place l refl c.requires c.index_mut-link.ensures.value)
    c.head.ensures.bears c.head.ensures.head
