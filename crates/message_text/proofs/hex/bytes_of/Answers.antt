use Rattle.message_text.proofs.HexDigits.{pair_read}
use Rattle.message_text.proofs.hex.bytes_of.Goals as goal

pub bytes-preserved-in_default-rest-2 : goal.bytes-preserved-in_default-rest-2
bytes-preserved-in_default-rest-2 c =
    let long = c.in-len2-up.len_at_least in
    let digits = c.in-Some-Some in
    let more = c.in_ok-push-in-len2-up.ensures.items in
    pair_read c.bytes.bytes.items _ c.args.line.now c.bytes.rest.now digits.high digits.low long
    digits.ensures digits.ensures' more c.bytes.invariant
