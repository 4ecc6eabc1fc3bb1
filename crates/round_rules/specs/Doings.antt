-- What a station does, deeds and what no log tells.
use Rattle.std.specs.Prelude.{ℕ, List, [], ◌∷◌, Option}
use Rattle.ason_base.specs.{declared.ids.NodeId.NodeId, declared.commands.DisturbKind.DisturbKind}
use Rattle.world_merge.specs.Deeds.{Deed}

-- an input that a turn comes to
pub data Waiting : Type 0 where
  TickAsked : Waiting
  DueFrame : (from : NodeId) (number : ℕ) → Waiting
  DeskItem : Waiting
  RingFrame : (from : NodeId) (number : ℕ) → Waiting

-- A deed; a frame is taken from the neighbour's ring, of which the last line of the script says this; the first of the
-- held frames is let go, to be delivered; a frame is lost for want of memory; an input is left, since the log is full.
pub data Doing : Type 0 where
  Did : (deed : Deed) → Doing
  Got : (from : NodeId) (number : ℕ) (says : Option DisturbKind) → Doing
  Freed : Doing
  Lost : (from : NodeId) (number : ℕ) → Doing
  Left : (input : Waiting) → Doing

abbrev pub deeds_in : List Doing → List Deed
deeds_in [] = []
deeds_in (Did d ∷ ds) = d ∷ deeds_in ds
deeds_in (Got u k says ∷ ds) = deeds_in ds
deeds_in (Freed ∷ ds) = deeds_in ds
deeds_in (Lost u k ∷ ds) = deeds_in ds
deeds_in (Left i ∷ ds) = deeds_in ds
