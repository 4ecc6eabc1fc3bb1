-- The count of faults of a source or a sink.
use Rattle.std.specs.Prelude.{◌≡◌, ◌<◌, ◌⊎◌, ◌^◌, ◌-◌, ◌+◌, ℕ, min}

-- the count rose, or is a count in 64 bits that stands at its last value
abbrev pub Rose : ℕ → ℕ → Type 0
Rose before now = (before < now) ⊎ (now ≡ 2 ^ 64 - 1)

-- one more, in 64 bits
abbrev pub counted : ℕ → ℕ
counted n = min (n + 1) (2 ^ 64 - 1)
