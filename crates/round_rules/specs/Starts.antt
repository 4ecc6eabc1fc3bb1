-- The first part of what a node does in a part of a turn, and what it lost then.
use Rattle.std.specs.Prelude.{◌≡◌, ◌≤◌, ℕ, List, ◌++◌, length}
use Rattle.ason_base.specs.{declared.ids.NodeId.NodeId, declared.commands.Disturb.Disturb, Network.Network}
use Rattle.round_rules.specs.{Doings.Doing, Held.{HeldFrame, due_in}, Takings.{AreTakings, Taking, all_doings}, Turns.{AreDelivered, AreHandled, items_after}, States.{IsStationOf, StationState}, Turned.IsLast}

-- The parts

-- the first of these held frames are let go and delivered
pub record AreFirstDues (due : List HeldFrame) (ds : List Doing) : Type 0 where
  pub freed : List HeldFrame
  pub kept : List HeldFrame
  pub all : due ≡ freed ++ kept
  pub are : AreDelivered freed ds

-- so many items are handled at most
abbrev pub AreFirstItems : ℕ → List Doing → Type 0
AreFirstItems most ds = AreHandled ds × (length ds ≤ most)

-- frames are taken
pub record AreFirstTakings (lines : List Disturb) (n : NodeId) (ds : List Doing) : Type 0 where
  pub takings : List Taking
  pub all : ds ≡ all_doings takings
  pub are : AreTakings lines n takings

-- Parts with those that follow

-- items, and then frames of the rings
pub record AreFromDesk (lines : List Disturb) (n : NodeId) (most : ℕ) (ds : List Doing) : Type 0 where
  pub items : List Doing
  pub rest : List Doing
  pub all : ds ≡ items ++ rest
  pub handled : AreFirstItems most items
  pub taken : AreFirstTakings lines n rest

-- frames that are due, and then items and frames of the rings
pub record AreFromDues (t : Network) (lines : List Disturb) (n : NodeId) (before ds : List Doing) : Type 0 where
  pub dues : List Doing
  pub rest : List Doing
  pub all : ds ≡ dues ++ rest
  pub freed : AreFirstDues (due_in before) dues
  pub on : AreFromDesk lines n (items_after t n (before ++ dues)) rest

-- Want of memory

-- the node did this, and what it came to then is lost
pub record StarvesAs (lines : List Disturb) (Made : List Doing → Type 0) (t : Network) (n : NodeId) (ds : List Doing)
    (new : StationState) : Type 0 where
  pub made : List Doing
  pub last : List Doing
  pub is_made : Made made
  pub is_last : IsLast lines n last
  pub stands : IsStationOf t n (ds ++ (made ++ last)) new
