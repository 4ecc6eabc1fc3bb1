-- What a part of a turn makes of a station, however it ends.
use Rattle.std.specs.{Prelude.{◌≡◌, ◌≤◌, ◌⊎◌, ℕ, suc, true, false, List, length, Result, Ok, Err}, List.AllZip}
use Rattle.ason_base.specs.{declared.ids.NodeId.NodeId, Network.Network}
use Rattle.flood.specs.Frames.{SpellsNothing}
use Rattle.control_channels.specs.declared.inputs.CoreInput.{CoreInput}
use Rattle.control_channels.specs.declared.inputs.CoreInput.TheVariants as input
use Rattle.round_rules.specs.{Doings.Doing, Moves.{HasMoved, TakesNone}, Phases.{Phase, ring_phase, rings_phase}, States.{IsStationOf, StationState}}
use Rattle.station_rings.specs.LinkStates.{BearsSome, LinkState}
use Rattle.station.specs.declared.halts.Halt.{Halt}
use Rattle.station.specs.declared.halts.Halt.TheVariants as halt

-- Where the station is that of a node that did something, it ends so: at its end, at the limit, or for want of memory.
abbrev pub StationLeads : Result (Unit {0}) Halt → Phase → StationState → StationState → Type 0
StationLeads (Ok x) R old new =
    (t : Network) (n : NodeId) (ds : List Doing) → IsStationOf t n ds old → R.ends old new t n ds false
StationLeads (Err halt.AtLimit) R old new =
    (t : Network) (n : NodeId) (ds : List Doing) → IsStationOf t n ds old → R.ends old new t n ds true
StationLeads (Err halt.OutOfMemory) R old new =
    (t : Network) (n : NodeId) (ds : List Doing) → IsStationOf t n ds old → R.starves old new t n ds

-- Of one of many like it: whatever the others lead to from here, this one and they lead to.
abbrev pub StationGoesOn : Result (Unit {0}) Halt → Phase → StationState → StationState → Type 0
StationGoesOn (Ok x) R old new =
    (r : Result (Unit {0}) Halt) (end : StationState) → StationLeads r R new end → StationLeads r R old end
StationGoesOn (Err e) R old new = StationLeads (Err e) R old new

-- of a frame of the ring at this place
abbrev pub GoesOnAt : Result (Unit {0}) Halt → ℕ → StationState → StationState → Type 0
GoesOnAt r place old new = (first : LinkState) → StationGoesOn r (ring_phase first place) old new

-- Of the ring at this place: whatever the rings after it lead to from here, this one and they lead to.
abbrev pub GoesPast : Result (Unit {0}) Halt → ℕ → StationState → StationState → Type 0
GoesPast (Ok x) place old new =
    (r : Result (Unit {0}) Halt) (end : StationState) → StationLeads r (rings_phase (suc place)) new end →
    StationLeads r (rings_phase place) old end
GoesPast (Err e) place old new = StationLeads (Err e) (rings_phase place) old new

-- What stays

-- frames were sent, lines were written in the log, and the lines of the script stay
pub record IsSending (old new : StationState) : Type 0 where
  pub links : AllZip TakesNone old.links new.links
  pub lines : new.lines ≡ old.lines
  pub grows : length old.log ≤ length new.log

-- frames were taken besides
pub record IsMoving (old new : StationState) : Type 0 where
  pub links : AllZip HasMoved old.links new.links
  pub lines : new.lines ≡ old.lines
  pub grows : length old.log ≤ length new.log

-- the bytes of a frame bear something, or spell nothing
abbrev pub IsInputRead : CoreInput → Type 0
IsInputRead (input.Frame u bytes) = BearsSome bytes ⊎ SpellsNothing bytes
IsInputRead input.Tick = Unit {0}
IsInputRead (input.Desk i) = Unit {0}
