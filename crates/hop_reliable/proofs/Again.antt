-- What a tick sends again, one message after the other.
use Rattle.std.proofs.Common.{◌≡◌, true, List, ◌∷◌, map, refl}
use Rattle.hop_reliable.specs.{declared.unacked.Unacked.Unacked, Ages.{is_due, older_age}, Hop.{again, numbered, older}}

-- the first message goes again where it comes to an age at which it is due, and those behind it follow
pub again_due : (w : Unacked) (ws : List Unacked) → is_due (older_age w.age) ≡ true →
    again (map older (w ∷ ws)) ≡ numbered w.number w.msg ∷ again (map older ws)
again_due w ws due = rw due refl
