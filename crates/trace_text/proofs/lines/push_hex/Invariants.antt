use Rattle.std.proofs.Common.{◌<◌, All, take}
use Rattle.ason_base.specs.Texts.{Appends}
use Rattle.wire_buf.specs.Hex.{hex_text}
use Rattle.trace_text.proofs.lines.push_hex.Given as goal

abbrev pub invariant-loop-byte : goal.invariant-loop-byte
invariant-loop-byte l =
    Appends l.initial.text l.text (hex_text (take l.byte-index l.bytes))
    × All (λ b. b < 256) (take l.byte-index l.bytes)
