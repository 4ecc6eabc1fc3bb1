-- The Internet checksum (RFC 1071), over the sum of all words at once.
use Rattle.std.specs.Prelude.{ℕ, zero, suc, ◌+◌, ◌-◌, ◌*◌, ◌%◌, List, [], ◌∷◌, sum, nat_lt, if◌then◌else◌}

-- the 16-bit words, with a zero byte behind an odd last one
abbrev pub words : List ℕ → List ℕ
words [] = []
words (high ∷ []) = high * 256 ∷ []
words (high ∷ low ∷ bytes) = (high * 256 + low) ∷ words bytes

-- A sum in one's complement counts modulo 65,535. Zero stands for no sum but 0; the other multiples of 65,535 are
-- 65,535.
abbrev pub ones_of : ℕ → ℕ
ones_of zero = zero
ones_of (suc n) = n % 65535 + 1

-- the one's complement of that sum
abbrev pub checksum_of : List ℕ → ℕ
checksum_of bytes = 65535 - ones_of (sum (words bytes))

-- two words in one's complement: a carry out of the top is added at the bottom
abbrev pub ones_add : ℕ → ℕ → ℕ
ones_add a b = if nat_lt 65535 (a + b) then (a + b) - 65535 else a + b
