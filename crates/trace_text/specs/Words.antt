-- The first part of a text, and words in front of it.
use Rattle.std.specs.{Prelude.{ℕ, ◌+◌, ◌==◌, List, Option, Some, None, bytes_eq, drop, length, position, take, if◌then◌else◌}, Borrow.Bor}

abbrev pub parts_at : List ℕ → Option ℕ → Option (List ℕ × List ℕ)
parts_at text None = None
parts_at text (Some k) = Some (take k text, drop (k + 1) text)

-- what stands before the first such byte, and what behind it; none where there is none
abbrev pub parted : ℕ → List ℕ → Option (List ℕ × List ℕ)
parted at text = parts_at text (position (λ b. b == at) text)

-- what is behind this word, where the text begins with it
abbrev pub behind_word : List ℕ → List ℕ → Option (List ℕ)
behind_word word text = if bytes_eq (take (length word) text) word then Some (drop (length word) text) else None

-- Views

abbrev pub both_now : Bor (List ℕ) × Bor (List ℕ) → List ℕ × List ℕ
both_now parts = (parts.0.now, parts.1.now)
