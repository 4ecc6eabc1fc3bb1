-- What all objects of RSVP share (RFC 2205, section 3.1.2).
use Rattle.std.specs.Prelude.{ℕ, ◌+◌, List, [], ◌∷◌, ◌++◌, length, drop}
use Rattle.byteorder.specs.Endian.{big_number, big_bytes}

-- the number in the n bytes from this place on, the highest byte first
abbrev pub number_at : ℕ → ℕ → List ℕ → ℕ
number_at place n bytes = big_number n (drop place bytes)

-- the numbers of four bytes each, one after the other
abbrev pub numbers : List ℕ → List ℕ
numbers (a ∷ b ∷ c ∷ d ∷ bytes) = big_number 4 (a ∷ b ∷ c ∷ d ∷ []) ∷ numbers bytes
numbers _ = []

-- an object's header: its length with the header, its class and its C-Type
abbrev pub header : ℕ → ℕ → ℕ → List ℕ
header len class ctype = big_bytes 2 len ++ big_bytes 1 class ++ big_bytes 1 ctype

-- an object: header and body
abbrev pub object : ℕ → ℕ → List ℕ → List ℕ
object class ctype body = header (4 + length body) class ctype ++ body
