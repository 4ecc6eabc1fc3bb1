-- The parts of a turn: how each ends at its end or at the limit, and what it did where memory was wanting.
use Rattle.std.specs.Prelude.{◌≡◌, ℕ, Bool, List, [], length, map, filter}
use Rattle.ason_base.specs.{declared.ids.NodeId.NodeId, Network.Network}
use Rattle.round_rules.specs.{Doings.Doing, Held.is_frame_due, Ends.{DeskEnds, DeskOnEnds, DueEnds, DueOnEnds, Ending, PopsEnd, TickEnds, TurnEnds}, Places.HaveComeOn, Stands.frame_of, Starts.{AreFirstDues, AreFirstItems, AreFirstTakings, AreFromDesk, AreFromDues, StarvesAs}, States.StationState, Turned.{HaveComeTo, StarvesTo}}
use Rattle.station_rings.specs.LinkStates.{LinkState}

-- of a station before and after, and of what its node did before
abbrev pub Starving : Type 1
Starving = StationState → StationState → Network → NodeId → List Doing → Type 0

-- a part of a turn
pub record Phase : Type 1 where
  pub ends : Ending
  pub starves : Starving

-- The parts

-- a tick that is refused is made later
abbrev pub tick_phase : Bool → Phase
tick_phase tick = record {
  ends = TickEnds tick;
  starves = λ old new t n ds. StarvesAs old.lines (λ made. made ≡ []) t n ds new;
}

-- the frames that are due, the one that is refused is lost
abbrev pub due_phase : Phase
due_phase = record {
  ends = DueEnds;
  starves = λ old new t n ds. StarvesAs old.lines (AreFirstDues (filter is_frame_due (map frame_of old.held))) t n ds
      new;
}

-- an item that is refused stays on the desk
abbrev pub desk_phase : Phase
desk_phase = record {
  ends = DeskEnds;
  starves = λ old new t n ds. StarvesAs old.lines (AreFirstItems (length old.desk)) t n ds new;
}

-- frames were taken of the rings, and the one that is refused is lost
abbrev pub RingsStarve : Starving
RingsStarve old new t n ds = StarvesAs old.lines (AreFirstTakings old.lines n) t n ds new

-- the rings from this place on
abbrev pub rings_phase : ℕ → Phase
rings_phase i = record { ends = PopsEnd HaveComeTo i; starves = RingsStarve }

-- in the midst of the ring at this place, whose link was this one before
abbrev pub ring_phase : LinkState → ℕ → Phase
ring_phase first i = record { ends = PopsEnd (HaveComeOn first) i; starves = RingsStarve }

-- Parts with those that follow

-- the desk, and then the rings
abbrev pub from_desk : Phase
from_desk = record {
  ends = DeskOnEnds;
  starves = λ old new t n ds. StarvesAs old.lines (AreFromDesk old.lines n (length old.desk)) t n ds new;
}

-- the frames that are due, and then the desk and the rings
abbrev pub from_dues : Phase
from_dues = record {
  ends = DueOnEnds;
  starves = λ old new t n ds. StarvesAs old.lines (AreFromDues t old.lines n ds) t n ds new;
}

-- the whole turn
abbrev pub turn_phase : Bool → Phase
turn_phase tick = record {
  ends = TurnEnds tick;
  starves = λ old new t n ds. StarvesTo t old.lines n ds tick new;
}
