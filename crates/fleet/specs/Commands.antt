-- What posts, noise and lines that name a frame make of a fleet.
use Rattle.std.specs.Prelude.{◌≡◌, ◌==◌, ℕ, Bool, List, [], ◌∷◌, ◌++◌, length, map, position, Option, None, Some, slice_get}
use Rattle.ason_base.specs.{declared.limits.TheConstants.MOST_EVENTS, declared.ids.NodeId.NodeId, declared.commands.Command.Command, declared.commands.Disturb.Disturb, declared.commands.Event.TheVariants.Post, Network.Network}
use Rattle.world_rules.specs.WorldRuns.{IsEnabled}
use Rattle.round_rules.specs.{Records.{Record, world_of}, States.StationState, Commands.{named, noised, record_posted}}
use Rattle.fleet.specs.{declared.seats.Seat.Seat, Standing.{FleetState, KeepsRest, StandsFor}}

abbrev pub is_seat : NodeId → Seat → Bool
is_seat n s = s.id.0 == n.0

-- Posts

-- for whatever record the fleet stands, and where the post may come
abbrev pub Posts : Command → FleetState → FleetState → Type 0
Posts c old new =
    (t : Network) (lines : List Disturb) (r : Record) → StandsFor t lines old r →
    IsEnabled t (world_of t r) (Post c) → StandsFor t lines new (record_posted t c r)

-- what a station has but for the room on its desk
abbrev pub but_room : StationState → StationState
but_room s = record s { spare = 0 }

-- nothing differs but the room on desks
pub record IsAsBefore (old new : FleetState) : Type 0 where
  pub stations : map but_room new.stations ≡ map but_room old.stations
  pub seats : new.seats ≡ old.seats
  pub rest : KeepsRest old new

-- the fleet stands for the same records
abbrev pub FleetStandsOn : FleetState → FleetState → Type 0
FleetStandsOn old new =
    (t : Network) (lines : List Disturb) (r : Record) → StandsFor t lines old r → StandsFor t lines new r

-- Logs

-- the station of the node
abbrev pub station_in : FleetState → Option ℕ → Option StationState
station_in f None = None
station_in f (Some place) = slice_get f.stations place

abbrev pub station_of : FleetState → NodeId → Option StationState
station_of f n = station_in f (position (is_seat n) f.seats)

abbrev pub station_lines : Option StationState → ℕ
station_lines None = 0
station_lines (Some s) = length s.log

-- the log of the node's station has no room for a line
abbrev pub is_log_full : NodeId → FleetState → Bool
is_log_full n f = station_lines (station_of f n) == MOST_EVENTS

-- Noise

abbrev pub Noises : NodeId → NodeId → List ℕ → FleetState → FleetState → Type 0
Noises u d bytes old new =
    (t : Network) (lines : List Disturb) (r : Record) → StandsFor t lines old r →
    StandsFor t lines new (noised u d bytes r)

-- Lines that name a frame

-- the line names a frame by its number on the channel from now on
abbrev pub Disturbs : Disturb → FleetState → FleetState → Type 0
Disturbs d old new =
    (t : Network) (lines : List Disturb) (r : Record) → StandsFor t lines old r →
    StandsFor t (lines ++ named t r d ∷ []) new r
