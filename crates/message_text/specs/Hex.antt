-- Lines of bytes in hexadecimal.
use Rattle.std.specs.Prelude.{ℕ, ◌==◌, Option, None, Some, List, [], ◌∷◌, if◌then◌else◌}
use Rattle.wire_buf.specs.Hex.{byte_of, digit_value}

-- The bytes of a line: two digits each, with spaces anywhere between bytes, before the first and behind the last. None
-- where the line is of another form.
abbrev pub hex_bytes : List ℕ → Option (List ℕ)
hex_bytes [] = Some []
hex_bytes (c ∷ []) = if c == 32 then Some [] else None
hex_bytes (c ∷ d ∷ cs) =
    if c == 32 then hex_bytes (d ∷ cs) else byte_of (digit_value c) (digit_value d) (hex_bytes cs)
