-- What follows the first byte of a frame.
use Rattle.std.specs.Prelude.{◌≡◌, ℕ, List, ◌∷◌}
use Rattle.flood.specs.{declared.frames.Body.Body, declared.frames.Body.TheVariants.{Message, Flood}}

-- the byte 46, and the bytes of an RSVP message; or the byte 89, and those of a flood message
abbrev pub IsBody : List ℕ → Body → Type 0
IsBody bytes (Message body) = bytes ≡ 46 ∷ body.now
IsBody bytes (Flood body) = bytes ≡ 89 ∷ body.now
