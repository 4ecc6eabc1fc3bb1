use Rattle.flood.proofs.Envelopes.{row_found, row_none, row_only, same_error}
use Rattle.flood.proofs.messages.decode_flood.Goals as goal

pub returns-in-Err-clause-not_message : goal.returns-in-Err-clause-not_message
returns-in-Err-clause-not_message c is =
    row_none c.args.bytes.now c.number_at.result c.if-bytes-ne-ROW.false c.number_at.ensures
    (c.in-Err.ensures.not_message (same_error _ _ is))

pub returns-in-Ok-clause-found : goal.returns-in-Ok-clause-found
returns-in-Ok-clause-found c =
    row_found c.args.bytes.now c.number_at-number.result c.number_at.result c.in-Ok.row c.if-bytes-lt12.false
    c.if-bytes-ne-ROW.false c.number_at-number.ensures c.number_at.ensures c.in-Ok.ensures.found

pub returns-in-Ok-clause-only : goal.returns-in-Ok-clause-only
returns-in-Ok-clause-only c =
    row_only c.args.bytes.now c.number_at-number.result c.number_at.result c.in-Ok.row c.if-bytes-ne-ROW.false
    c.number_at-number.ensures c.number_at.ensures c.in-Ok.ensures.only
