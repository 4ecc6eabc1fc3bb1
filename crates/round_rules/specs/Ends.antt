-- How a part of a turn ends.
use Rattle.std.specs.{Prelude.{◌≡◌, ℕ, Bool, true, false, List, ◌++◌, length}, List.AllZip}
use Rattle.ason_base.specs.{declared.ids.NodeId.NodeId, Network.Network}
use Rattle.round_rules.specs.{Doings.Doing, Functions.Popped, Limits.{Progress, desk_part, due_parts, going, item_parts, pop_parts, tick_part, unless_halted}, PartLimits.IsAtLimit, Places.{FromPlace, OfLinks}, States.{IsStationOf, StationState}, Turned.{HaveComeTo, IsPoppedHeld, TurnsTo, all_of, due_parcels}}

-- the station is that of a node that did this before, and has come this far
pub record EndsAs (t : Network) (n : NodeId) (ds : List Doing) (halted : Bool) (p : Progress)
    (new : StationState) : Type 0 where
  pub added : List Doing
  pub all : p.doings ≡ ds ++ added
  pub stands : IsStationOf t n p.doings new
  pub halts : p.halted ≡ halted
  pub limit : halted ≡ true → IsAtLimit new

-- The parts

abbrev pub Ending : Type 1
Ending = StationState → StationState → Network → NodeId → List Doing → Bool → Type 0

abbrev pub TickEnds : Bool → Ending
TickEnds tick old new t n ds halted = EndsAs t n ds halted (tick_part tick ds) new

-- the frames that are due are let go and delivered
pub record DueEnds (old new : StationState) (t : Network) (n : NodeId) (ds : List Doing)
    (halted : Bool) : Type 0 where
  pub due : List Popped
  pub are : AllZip IsPoppedHeld (due_parcels false old.held) due
  pub ends : EndsAs t n ds halted (due_parts (going ds) due) new

abbrev pub DeskEnds : Ending
DeskEnds old new t n ds halted = EndsAs t n ds halted (item_parts (length old.desk) (going ds)) new

-- the frames of the links from this place on are taken, so
pub record PopsEnd (R : Bool → OfLinks) (i : ℕ) (old new : StationState) (t : Network) (n : NodeId) (ds : List Doing)
    (halted : Bool) : Type 0 where
  pub pops : List (List Popped)
  pub are : FromPlace (R halted) i old.links new.links pops
  pub ends : EndsAs t n ds halted (pop_parts old.lines n (going ds) (all_of pops)) new

-- Parts with those that follow

-- the desk, and then the rings
pub record DeskOnEnds (old new : StationState) (t : Network) (n : NodeId) (ds : List Doing)
    (halted : Bool) : Type 0 where
  pub pops : List (List Popped)
  pub are : HaveComeTo halted old.links new.links pops
  pub ends :
      EndsAs t n ds halted (pop_parts old.lines n (item_parts (length old.desk) (going ds)) (all_of pops)) new

-- the frames that are due, and then the desk and the rings
pub record DueOnEnds (old new : StationState) (t : Network) (n : NodeId) (ds : List Doing)
    (halted : Bool) : Type 0 where
  pub due : List Popped
  pub are_due : AllZip IsPoppedHeld (due_parcels false old.held) due
  pub pops : List (List Popped)
  pub are : HaveComeTo halted old.links new.links pops
  pub ends :
      EndsAs t n ds halted
      (pop_parts old.lines n (unless_halted (desk_part t n) (due_parts (going ds) due)) (all_of pops)) new

-- the whole turn
pub record TurnEnds (tick : Bool) (old new : StationState) (t : Network) (n : NodeId) (ds : List Doing)
    (halted : Bool) : Type 0 where
  pub turns : TurnsTo t n ds tick halted old new
  pub limit : halted ≡ true → IsAtLimit new
