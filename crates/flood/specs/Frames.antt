-- Frames on a control channel: one byte, which tells what follows, and a body.
use Rattle.std.specs.Prelude.{◌≡◌, ℕ, List, ◌∷◌}
use Rattle.ason_base.specs.declared.ids.NodeId.{NodeId}
use Rattle.rsvp_messages.specs.{Packets.Spells, Written.written}
use Rattle.rsvp_messages.specs.Writable as packets
use Rattle.flood.specs.{declared.frames.Content.Content, declared.frames.Content.TheVariants.{Message, Flood}, Messages.{SpellsFlood, flood_bytes}}
use Rattle.flood.specs.Messages as floods

-- the byte 46, and an RSVP message that spells the packet; or the byte 89, and what spells the flood message
abbrev pub IsFrame : List ℕ → Content → Type 0
IsFrame bytes (Message p) = (body : List ℕ) × (bytes ≡ 46 ∷ body) × Spells body p
IsFrame bytes (Flood m) = (body : List ℕ) × (bytes ≡ 89 ∷ body) × SpellsFlood body m

-- the bytes are no frame
abbrev pub SpellsNothing : List ℕ → Type 0
SpellsNothing bytes = (c : Content) → ¬ IsFrame bytes c

-- the frame that a node sends
abbrev pub frame_bytes : NodeId → Content → List ℕ
frame_bytes me (Message p) = 46 ∷ written me p
frame_bytes me (Flood m) = 89 ∷ flood_bytes m

-- what has a written form
abbrev pub ContentCanBeWritten : Content → Type 0
ContentCanBeWritten (Message p) = packets.IsWritable p
ContentCanBeWritten (Flood m) = floods.CanBeWritten m
