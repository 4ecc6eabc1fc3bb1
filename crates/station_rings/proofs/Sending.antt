-- A frame is sent: how the law of stations sees the link then.
use Rattle.std.proofs.Common.{nat_lt, false, ◌≡◌, ◌≤◌, ◌+◌, ℕ, List, refl, arith}
use Rattle.ason_base.specs.declared.limits.TheConstants.{MOST_FRAMES}
use Rattle.station_rings.specs.{Links.with_parcel, LinkStates.{LinkState, view_of}}

-- A frame that is dropped takes its number alone.
pub sent-dropped : (l : LinkState) (stamp : ℕ) (frame : List ℕ) → nat_lt l.standing MOST_FRAMES ≡ false →
    view_of (record l { sent = l.sent + 1 }) ≡ with_parcel stamp frame (view_of l)
sent-dropped l stamp frame full = rw full refl

-- A number that isn't below 256 doesn't compare so.
pub not-less : (a : ℕ) → MOST_FRAMES ≤ a → nat_lt a MOST_FRAMES ≡ false
not-less a full = grind (arith, full)
