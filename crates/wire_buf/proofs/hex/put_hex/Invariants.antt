use Rattle.std.proofs.Common.{◌≡◌, ◌≤◌, ◌+◌, ◌-◌, ◌*◌, ◌++◌, length, take, vec_len, vec_capacity}
use Rattle.wire_buf.specs.Hex.{hex_text}
use Rattle.wire_buf.proofs.hex.put_hex.Given as goal

abbrev pub invariant-loop-byte : goal.invariant-loop-byte
invariant-loop-byte l = record {
  items : l.out.items ≡ l.fn.out.items ++ hex_text (take l.byte-index l.bytes);
  room : vec_len l.out + 2 * (length l.bytes - l.byte-index) ≤ vec_capacity l.out;
}
