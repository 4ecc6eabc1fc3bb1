use Rattle.wire_buf.specs.Hex.{hex_pairs}
use Rattle.wire_buf.proofs.HexDigits.{byte_read, pair_read}
use Rattle.wire_buf.proofs.hex.read_hex.Goals as goal

pub bytes-preserved : goal.bytes-preserved
bytes-preserved c =
    let long = c.in-len2-up.len_at_least in
    let digits = c.in-Some-Some in
    let more = c.in_ok-push-in-len2-up.ensures.items in
    pair_read hex_pairs byte_read c.bytes.bytes.items _ c.args.text.now c.bytes.rest.now digits.high digits.low long
    digits.ensures digits.ensures' more c.bytes.invariant
