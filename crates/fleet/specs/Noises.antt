-- Frames by their numbers, and bytes that spell nothing, at the stations of a fleet.
use Rattle.std.specs.Prelude.{◌≡◌, ℕ, List, [], ◌∷◌, ◌++◌, IsSome, None, Option, Some, position, slice_get, slice_set}
use Rattle.ason_base.specs.{declared.ids.NodeId.NodeId, declared.commands.Disturb.Disturb}
use Rattle.station_rings.specs.LinkStates.{LinkState}
use Rattle.round_rules.specs.States.{StationState}
use Rattle.station.specs.{Noise.HasHeard, Sending.is_link_to}
use Rattle.fleet.specs.{declared.seats.Seat.Seat, Commands.is_seat}

-- so many frames went over the link at this place
abbrev pub sent_by_link : Option LinkState → Option ℕ
sent_by_link None = None
sent_by_link (Some l) = Some l.sent

abbrev pub sent_at : List LinkState → Option ℕ → Option ℕ
sent_at links None = None
sent_at links (Some place) = sent_by_link (slice_get links place)

-- and from this station to this node
abbrev pub sent_from : NodeId → Option StationState → Option ℕ
sent_from to None = None
sent_from to (Some s) = sent_at s.links (position (is_link_to to) s.links)

abbrev pub sent_of : NodeId → List StationState → Option ℕ → Option ℕ
sent_of to stations None = None
sent_of to stations (Some place) = sent_from to (slice_get stations place)

-- how many frames the station of one node sent to the other, if they are there and have a link
abbrev pub sent_on : List Seat → List StationState → NodeId → NodeId → Option ℕ
sent_on seats stations from to = sent_of to stations (position (is_seat from) seats)

-- the station of the node to which the line leads, if it is there, has it as its last one
pub record HasLine (d : Disturb) (place : ℕ) (old new : List StationState) : Type 0 where
  pub before : StationState
  pub there : slice_get old place ≡ Some before
  pub stations : new ≡ slice_set old place (record before { lines = before.lines ++ d ∷ [] })

-- the station heard the bytes, if it has a link to the node that sent them
abbrev pub Hears : NodeId → List ℕ → StationState → StationState → Type 0
Hears from bytes old new = IsSome (position (is_link_to from) old.links) → HasHeard from bytes old new
