-- What the tests of the rules of orders say, in words.
use Rattle.std.proofs.Common.{◌≡◌, ◌≢◌, ◌≤◌, ◌<◌, ℕ, true, nat_le, nat_lt, List, [], ◌∷◌, refl, arith}
use Rattle.ason_base.specs.declared.ids.Fibre.{Fibre}
use Rattle.mesh_rules.specs.{declared.limits.TheConstants.{LAST_NUMBER, MOST_LEGS}, Turns.has_any}

-- a number that is spent has more than 16 bits
pub above : (b : ℕ) → nat_lt LAST_NUMBER b ≡ true → LAST_NUMBER < b
above b e = grind arith

-- a full node keeps all the legs that it can
pub most : (b : ℕ) → nat_le MOST_LEGS b ≡ true → MOST_LEGS ≤ b
most b e = grind arith

-- the fibres that are reported
pub some-any : (fs : List Fibre) → fs ≢ [] → has_any fs ≡ true
some-any [] some = absurd (some refl)
some-any (f ∷ fs) some = refl

-- some are reported
pub any-some : (fs : List Fibre) → has_any fs ≡ true → fs ≢ []
any-some [] any none = cc any
any-some (f ∷ fs) any none = cc none
