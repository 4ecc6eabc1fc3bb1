-- Bytes in hexadecimal, two digits each.
use Rattle.std.specs.{Prelude.{ℕ, ◌+◌, ◌-◌, ◌*◌, ◌/◌, ◌%◌, ◌&&◌, nat_le, Option, None, Some, List, [], ◌∷◌, if◌then◌else◌}, List.flat_map, Option.option_map}

-- the value of a digit: `0` to `9`, `a` to `f`, `A` to `F`
abbrev pub digit_value : ℕ → Option ℕ
digit_value c =
    if nat_le 48 c && nat_le c 57 then Some (c - 48)
    else if nat_le 97 c && nat_le c 102 then Some (c - 87)
    else if nat_le 65 c && nat_le c 70 then Some (c - 55)
    else None

-- the byte of two digits, in front of the others
abbrev pub byte_of : Option ℕ → Option ℕ → Option (List ℕ) → Option (List ℕ)
byte_of (Some high) (Some low) others = option_map (λ bytes. (16 * high + low) ∷ bytes) others
byte_of (Some high) None others = None
byte_of None low others = None

-- the bytes that a text writes, two digits each with nothing between them; none where it is of another form
abbrev pub hex_pairs : List ℕ → Option (List ℕ)
hex_pairs [] = Some []
hex_pairs (c ∷ []) = None
hex_pairs (c ∷ d ∷ cs) = byte_of (digit_value c) (digit_value d) (hex_pairs cs)

-- the digit of a value below 16: `0` to `9`, `A` to `F`
abbrev pub digit_of : ℕ → ℕ
digit_of value = if nat_le value 9 then value + 48 else value - 10 + 65

abbrev pub byte_text : ℕ → List ℕ
byte_text byte = digit_of (byte / 16) ∷ digit_of (byte % 16) ∷ []

-- bytes as two digits each, letters in upper case
abbrev pub hex_text : List ℕ → List ℕ
hex_text bytes = flat_map byte_text bytes
