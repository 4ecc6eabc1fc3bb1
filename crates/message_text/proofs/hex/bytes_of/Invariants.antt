use Rattle.std.proofs.Common.{◌≡◌, length}
use Rattle.message_text.specs.Hex.{hex_bytes}
use Rattle.message_text.proofs.HexDigits.{front_and_behind}
use Rattle.message_text.proofs.hex.bytes_of.Given as goal

abbrev pub invariant-bytes : goal.invariant-bytes
invariant-bytes l = front_and_behind l.bytes.items (hex_bytes l.rest) ≡ hex_bytes l.line

abbrev pub decreases-bytes : goal.decreases-bytes
decreases-bytes l = length l.rest
