use Rattle.std.proofs.Common.{◌≡◌, length}
use Rattle.wire_buf.specs.Hex.{hex_pairs}
use Rattle.wire_buf.proofs.HexDigits.{bytes_behind}
use Rattle.wire_buf.proofs.hex.read_hex.Given as goal

abbrev pub invariant-bytes : goal.invariant-bytes
invariant-bytes l = bytes_behind l.bytes.items (hex_pairs l.rest) ≡ hex_pairs l.text

abbrev pub decreases-bytes : goal.decreases-bytes
decreases-bytes l = length l.rest
