use Rattle.std.proofs.Common.{List, ℕ, ◌++◌}
use Rattle.std.specs.Prelude.{string_bytes}
use Rattle.message_text.specs.{DecodeText.{AreTexts, lines_of}, LinesLeft.{text_lines_left, size_left}}
use Rattle.message_text.proofs.OneText.{TextGoesOn}
use Rattle.message_text.proofs.decode_text.Given as goal

abbrev pub invariant-lines : goal.invariant-lines
invariant-lines l = record {
  printed :
      (others : List ℕ) → AreTexts (text_lines_left l.left) others
      → AreTexts (lines_of l.bytes) (string_bytes l.text ++ others);
  only : (t : List ℕ) → AreTexts (lines_of l.bytes) t → TextGoesOn t (text_lines_left l.left) (string_bytes l.text);
}

abbrev pub decreases-lines : goal.decreases-lines
decreases-lines l = size_left l.left
