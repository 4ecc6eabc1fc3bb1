use Rattle.std.proofs.Common.{codes, string_bytes}
use Rattle.table_text.specs.TableText.{leg_standing, lsp_text}
use Rattle.table_text.proofs.TextParts.{three_parts}
use Rattle.table_text.proofs.table.push_place.Goals as goal

pub returns : goal.returns
returns c =
    let start = c.args.text.now in
    let word = c.push_str.new.self in
    let lsp = c.push_lsp.new.text in
    let standing = c.push_standing.new.text in
    let row = c.args.row.now in
    three_parts (string_bytes start) (string_bytes word) (string_bytes lsp) (string_bytes standing)
    (codes "leg ") (lsp_text c.args.plan.now row.lsp) (leg_standing c.args.plan.now row)
    c.in_ok-push_str.ensures.bytes c.in_ok-push_lsp.ensures c.in_ok-push_standing.ensures
