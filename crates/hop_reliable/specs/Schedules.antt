-- Two ends of a hop over a channel that loses, repeats and reorders, and what holds under every schedule.
use Rattle.std.specs.Prelude.{◌<◌, AllPairs, ◌≡◌, ℕ, ◌+◌, ◌≤◌, nat_lt, Option, Some, None, List, [], ◌∷◌, ◌++◌, length, drop, filter, map, slice_get, Any}
use Rattle.ason_base.specs.{declared.messages.Msg.Msg, declared.messages.Packet.Packet}
use Rattle.hop_reliable.specs.Hop.{HopState, fresh_hop, numbered, sent_message, ticked, resent, heard_as, received, handed_up_of, answers_to}

pub data Side : Type 0 where
  West : Side
  East : Side

pub record HopEnd : Type 0 where
  pub hop : HopState
  pub given : List Msg  -- what was sent here, in order
  pub up : List Msg  -- what was handed up here, in order
  pub frames : List Packet  -- every frame that was ever made here: messages, the same again, and acknowledgements

pub record HopPair : Type 0 where
  pub west : HopEnd
  pub east : HopEnd

abbrev pub idle : HopEnd
idle = record { hop = fresh_hop; given = []; up = []; frames = [] }

abbrev pub pair_start : HopPair
pair_start = record { west = idle; east = idle }

-- What may happen next. A loss is a frame that never comes.
pub data Happening : Type 0 where
  Sends : (at : Side) (m : Msg) → Happening
  Ticks : (at : Side) → Happening
  Takes : (at : Side) (frame : ℕ) → Happening  -- the frame of this place among all that the other end ever made

abbrev pub end_sends : Msg → HopEnd → HopEnd
end_sends m e = record {
  hop = sent_message e.hop m;
  given = e.given ++ m ∷ [];
  up = e.up;
  frames = e.frames ++ numbered (e.hop.sent + 1) m ∷ [];
}

abbrev pub end_ticks : HopEnd → HopEnd
end_ticks e = record { hop = ticked e.hop; given = e.given; up = e.up; frames = e.frames ++ resent e.hop }

abbrev pub end_takes : Option Packet → HopEnd → HopEnd
end_takes None e = e
end_takes (Some p) e = record {
  hop = received e.hop p;
  given = e.given;
  up = e.up ++ handed_up_of (heard_as e.hop p) p;
  frames = e.frames ++ answers_to (heard_as e.hop p) p;
}

abbrev pub happens : HopPair → Happening → HopPair
happens s (Sends West m) = record { west = end_sends m s.west; east = s.east }
happens s (Sends East m) = record { west = s.west; east = end_sends m s.east }
happens s (Ticks West) = record { west = end_ticks s.west; east = s.east }
happens s (Ticks East) = record { west = s.west; east = end_ticks s.east }
happens s (Takes West k) = record { west = end_takes (slice_get s.east.frames k) s.west; east = s.east }
happens s (Takes East k) = record { west = s.west; east = end_takes (slice_get s.west.frames k) s.east }

abbrev pub after_schedule : HopPair → List Happening → HopPair
after_schedule s [] = s
after_schedule s (e ∷ es) = after_schedule (happens s e) es

-- Whatever holds from one end to the other, for both directions after every schedule.
abbrev pub BothWays : (HopEnd → HopEnd → Type 0) → HopPair → Type 0
BothWays P s = P s.west s.east × P s.east s.west

-- what the receiver handed up is a prefix of what was sent: each message once and in order
abbrev pub IsInOrder : HopEnd → HopEnd → Type 0
IsInOrder sender receiver = (rest : List Msg) × (receiver.up ++ rest ≡ sender.given)

-- a message that was sent and isn't handed up is still unacknowledged, so it goes again
abbrev pub IsKept : HopEnd → HopEnd → Type 0
IsKept sender receiver =
    (k : ℕ) (m : Msg) → slice_get sender.given k ≡ Some m → length receiver.up ≤ k →
    Any (λ w. (w.number ≡ k + 1) × (w.msg ≡ m)) sender.hop.unacked

-- where nothing is unacknowledged, all that was sent was handed up
abbrev pub IsSettled : HopEnd → HopEnd → Type 0
IsSettled sender receiver = sender.hop.unacked ≡ [] → receiver.up ≡ sender.given

-- what was given beyond what was handed up, in order
abbrev pub under_way : HopEnd → HopEnd → List Msg
under_way sender receiver = drop (length receiver.up) sender.given

-- the unacknowledged messages that aren't handed up, in order of number
abbrev pub waiting : HopEnd → HopEnd → List Msg
waiting sender receiver = map (λ w. w.msg) (filter (λ w. nat_lt (length receiver.up) w.number) sender.hop.unacked)

-- what was given beyond what was handed up is what waits
abbrev pub IsWaiting : HopEnd → HopEnd → Type 0
IsWaiting sender receiver = under_way sender receiver ≡ waiting sender receiver

abbrev pub HandedUpInOrder : Type 0
HandedUpInOrder = (schedule : List Happening) → BothWays IsInOrder (after_schedule pair_start schedule)

abbrev pub NothingIsLost : Type 0
NothingIsLost = (schedule : List Happening) → BothWays IsKept (after_schedule pair_start schedule)

abbrev pub SettledIsDelivered : Type 0
SettledIsDelivered = (schedule : List Happening) → BothWays IsSettled (after_schedule pair_start schedule)

abbrev pub UnderWayIsWaiting : Type 0
UnderWayIsWaiting = (schedule : List Happening) → BothWays IsWaiting (after_schedule pair_start schedule)

-- the unacknowledged messages stand in order of number, so what a tick sends again does too
abbrev pub IsRising : HopEnd → Type 0
IsRising e = AllPairs (λ v w. v.number < w.number) e.hop.unacked

abbrev pub UnackedRise : Type 0
UnackedRise = (schedule : List Happening) →
    IsRising (after_schedule pair_start schedule).west × IsRising (after_schedule pair_start schedule).east
