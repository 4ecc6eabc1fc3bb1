-- How turns end.
use Rattle.std.proofs.Common.{◌≡◌, refl, true, false}
use Rattle.round_rules.specs.{Turned.{comes_to_end, is_at_limit, is_starved}, declared.turns.Turn.Turn, declared.turns.Turn.TheVariants.{AtLimit, Idle, Starved, Worked}}

-- turns that came to their end didn't starve
pub not-starved : (end : Turn) → comes_to_end end ≡ true → is_starved end ≡ false
not-starved (Worked k) e = refl
not-starved Idle e = refl
not-starved AtLimit e = absurd (cc (e))
not-starved Starved e = absurd (cc (e))

-- nor did they halt
pub not-halted : (end : Turn) → comes_to_end end ≡ true → is_at_limit end ≡ false
not-halted (Worked k) e = refl
not-halted Idle e = refl
not-halted AtLimit e = absurd (cc (e))
not-halted Starved e = refl

-- those that halted didn't starve
pub halted-fed : (end : Turn) → is_at_limit end ≡ true → is_starved end ≡ false
halted-fed (Worked k) e = refl
halted-fed Idle e = refl
halted-fed AtLimit e = refl
halted-fed Starved e = absurd (cc (e))

-- those that neither starved nor halted came to their end
pub all-ended : (end : Turn) → is_starved end ≡ false → is_at_limit end ≡ false → comes_to_end end ≡ true
all-ended (Worked k) e f = refl
all-ended Idle e f = refl
all-ended AtLimit e f = absurd (cc (f))
all-ended Starved e f = absurd (cc (e))
