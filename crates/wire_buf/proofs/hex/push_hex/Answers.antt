use Rattle.std.proofs.Common.{arith, ap, ◌∙◌, ◌++◌}
use Rattle.wire_buf.proofs.{Codecs.{appends_all, appends_none}, HexDigits.hex_text-length}
use Rattle.wire_buf.specs.Hex.{hex_text}
use Rattle.wire_buf.proofs.hex.push_hex.Goals as goal

pub returns : goal.returns
returns c = appends_all _
    (c.put_hex.ensures ∙ ap (λ front. front ++ hex_text c.args.bytes.now) c.in_ok-reserve.ensures.items)

pub returns-in_err-reserve : goal.returns-in_err-reserve
returns-in_err-reserve c = appends_none _ c.from_residual.ensures.0 c.in_err-reserve.ensures.items
    (omega (arith, hex_text-length c.args.bytes.now, c.in_err-reserve.ensures.full))
