-- When a message that waits for its acknowledgement goes again.
use Rattle.std.specs.Prelude.{◌≡◌, ℕ, ◌+◌, ◌*◌, Bool, ◌==◌, ◌||◌, nat_lt, if◌then◌else◌, zero, suc, ◌⊎◌, ◌↔◌, IsTrue}

-- a tick ages a message by one, and 68 counts as 8
abbrev pub older_age : ℕ → ℕ
older_age age = if nat_lt age 67 then age + 1 else 8

-- the ages at which it goes again
abbrev pub is_due : ℕ → Bool
is_due age = age == 1 || age == 3 || age == 7 || age == 67

-- the age of a message so many ticks after its first sending
abbrev pub age_after : ℕ → ℕ
age_after zero = 0
age_after (suc ticks) = older_age (age_after ticks)

-- it goes again 1, 3 and 7 ticks after its first sending, then every 60 ticks, without end
abbrev pub Rhythm : Type 0
Rhythm = (ticks : ℕ) → IsTrue (is_due (age_after ticks)) ↔
    ((ticks ≡ 1) ⊎ (ticks ≡ 3) ⊎ ((rounds : ℕ) × (ticks ≡ 7 + 60 * rounds)))
