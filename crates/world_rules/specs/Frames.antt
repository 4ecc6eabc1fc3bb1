-- What of a channel is of hops, and what is of floods.
use Rattle.std.specs.Prelude.{List, [], ◌∷◌}
use Rattle.ason_base.specs.declared.messages.Packet.{Packet}
use Rattle.flood.specs.{declared.frames.Content.Content, declared.frames.Content.TheVariants.{Message, Flood}, declared.messages.FloodMsg.FloodMsg}

-- the packets among what a channel bears
abbrev pub packets_of : List Content → List Packet
packets_of [] = []
packets_of (Message packet ∷ contents) = packet ∷ packets_of contents
packets_of (Flood m ∷ contents) = packets_of contents

-- the flood messages among it
abbrev pub floods_of : List Content → List FloodMsg
floods_of [] = []
floods_of (Message packet ∷ contents) = floods_of contents
floods_of (Flood m ∷ contents) = m ∷ floods_of contents
