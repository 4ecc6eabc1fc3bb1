-- Turns of all stations, and how they end.
use Rattle.std.specs.{Prelude.{◌≡◌, ◌+◌, ◌*◌, ◌/◌, ◌%◌, ℕ, min, Bool, true, false, List, Option, Some, None, Result, position, slice_get, slice_set, sum_by, length}, List.{AllZip, list_any}}
use Rattle.ason_base.specs.declared.ids.NodeId.{NodeId}
use Rattle.round_rules.specs.{States.StationState, Turned.{HaveMadeTurns, is_at_limit, is_starved}, declared.turns.Turn.Turn}
use Rattle.round_rules.specs.declared.turns.Turn.TheVariants as turn
use Rattle.fleet.specs.{declared.fleet.RoundFault.RoundFault, declared.seats.Seat.Seat, Looks.{IsAround, LooksOver}, Rounds.Rounds, Standing.FleetState}
use Rattle.fleet.specs.declared.fleet.RoundFault.TheVariants as fault

-- a station's turns of one round, how the last one ended kept in it
abbrev pub MakesTurns : ℕ → StationState → StationState → Type 0
MakesTurns stride old new = HaveMadeTurns stride true old new new.answer

abbrev pub HaveTurned : ℕ → List StationState → List StationState → Type 0
HaveTurned stride old new = AllZip (MakesTurns stride) old new

abbrev pub was_starved : StationState → Bool
was_starved s = is_starved s.answer

abbrev pub was_at_limit : StationState → Bool
was_at_limit s = is_at_limit s.answer

-- the node at this place is at its limit
abbrev pub limit_of : Option Seat → Option RoundFault
limit_of None = None
limit_of (Some s) = Some (fault.AtLimit s.id)

abbrev pub limit_at : List Seat → Option ℕ → Option RoundFault
limit_at seats None = None
limit_at seats (Some place) = limit_of (slice_get seats place)

-- memory was wanting at some station, or else the first one at its limit
abbrev pub fault_by : Bool → Option RoundFault → Option RoundFault
fault_by true limit = Some fault.Starved
fault_by false limit = limit

abbrev pub fault_of : List Seat → List StationState → Option RoundFault
fault_of seats stations =
    fault_by (list_any was_starved stations) (limit_at seats (position was_at_limit stations))

-- how many lines all logs have
abbrev pub line_count : List StationState → ℕ
line_count stations = sum_by (λ (s : StationState). length s.log) stations

-- a round of the fleet that has these seats and stations
abbrev pub RoundsOf : ℕ → List Seat → List StationState → List StationState → Result ℕ RoundFault →
    Type 0
RoundsOf workers seats old new answer =
    (f : FleetState) → f.seats ≡ seats → f.stations ≡ old → Rounds workers f (record f { stations = new }) answer

-- On threads

-- how many of the items the first parts have, so many of all parts: each has as many as another, or one more
abbrev pub front_len : ℕ → ℕ → ℕ → ℕ
front_len items parts first = items / parts * first + min (items % parts) first

-- One worker

-- how the turns of this node end a round, if they do
abbrev pub fault_after : Turn → NodeId → Option RoundFault
fault_after (turn.Worked k) n = None
fault_after turn.Idle n = None
fault_after turn.AtLimit n = Some (fault.AtLimit n)
fault_after turn.Starved n = Some fault.Starved

-- the station at this place made its turns, between looks at all of its rings
pub record TurnsAt (seats : List Seat) (place stride : ℕ) (old new : List StationState)
    (answer : Option RoundFault) : Type 0 where
  pub looked : List StationState
  pub first : LooksOver seats (IsAround place) old looked
  pub before : StationState
  pub after : StationState
  pub there : slice_get looked place ≡ Some before
  pub turns : MakesTurns stride before after
  pub second : LooksOver seats (IsAround place) (slice_set looked place after) new
  pub seat : Seat
  pub seated : slice_get seats place ≡ Some seat
  pub answers : answer ≡ fault_after after.answer seat.id
