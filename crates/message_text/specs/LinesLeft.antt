-- What is left to read of some lines: nothing, or bytes with their first line in front.
use Rattle.std.specs.{Prelude.{ℕ, ◌+◌, List, [], length, Option, None, Some}, Borrow.Bor}
use Rattle.message_text.specs.DecodeText.{lines_of}

abbrev pub text_lines_left : Option (Bor (List ℕ)) → List (List ℕ)
text_lines_left None = []
text_lines_left (Some bytes) = lines_of bytes.now

abbrev pub size_left : Option (Bor (List ℕ)) → ℕ
size_left None = 0
size_left (Some bytes) = 1 + length bytes.now
