use Rattle.std.proofs.Common.{codes, string_bytes}
use Rattle.table_text.specs.TableText.{back_text, leg_labels, leg_place}
use Rattle.table_text.proofs.TextParts.{four_parts}
use Rattle.table_text.proofs.table.push_leg.Goals as goal

pub returns : goal.returns
returns c =
    let start = c.args.text.now in
    let place = c.push_place.new.text in
    let labels = c.push_labels.new.text in
    let back = c.push_back.new.text in
    let end = c.push_str.new.self in
    let row = c.args.row.now in
    four_parts (string_bytes start) (string_bytes place) (string_bytes labels) (string_bytes back) (string_bytes end)
    (leg_place c.args.plan.now row) (leg_labels row) (back_text row) (codes "\n")
    c.in_ok-push_place.ensures c.in_ok-push_labels.ensures c.in_ok-push_back.ensures c.in_ok-push_str.ensures.bytes
