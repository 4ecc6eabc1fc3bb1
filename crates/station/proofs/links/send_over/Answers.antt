use Rattle.std.proofs.{Common.{◌≡◌, true, length, refl, ◌∙◌, ap}, lemmas.List.Quantifiers.position-Some, lemmas.Option.slice_get_read}
use Rattle.std.specs.Prelude.{Some, slice_get}
use Rattle.ason_base.proofs.Places.{all-at}
use Rattle.station.specs.Sending.{MaySend, is_link_to}
use Rattle.station.proofs.Sending.{sent-one, sent-place}
use Rattle.station.proofs.links.send_over.Goals as goal

pub send-requires-clause-stamps : goal.send-requires-clause-stamps
send-requires-clause-stamps c =
    let links = c.args.links.now.items in
    let l = c.index_mut-link.result.now in
    let found = position-Some (is_link_to c.args.frame.to) links c.args.place l c.requires.there in
    let at : slice_get links c.args.place ≡ Some l =
    slice_get_read links (length links) c.args.place l refl found.0 c.index_mut-link.ensures.value in
    (all-at (MaySend 1 c.args.stamp) links c.args.place l c.requires.may at).stamps

pub returns : goal.returns
returns c =
    let links = c.args.links.now.items in
    let l = c.index_mut-link.result.now in
    let m = c.send.new.self in
    let found = position-Some (is_link_to c.args.frame.to) links c.args.place l c.requires.there in
    let at : slice_get links c.args.place ≡ Some l =
    slice_get_read links (length links) c.args.place l refl found.0 c.index_mut-link.ensures.value in
    let to : is_link_to c.args.frame.to l ≡ true = ap (is_link_to c.args.frame.to) c.index_mut-link.ensures.value
    ∙ found.1 in
    sent-place c.args.stamp c.args.frame links c.args.place l m at to c.requires.apart
    (sent-one c.args.stamp c.args.frame l m to c.send.ensures.sent c.send.ensures.ends c.send.ensures.into
    c.send.ensures.early c.send.ensures.used)
