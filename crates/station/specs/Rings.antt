-- A frame that is taken from a ring.
use Rattle.std.specs.Prelude.{◌≡◌, ◌+◌, ◌⊎◌, ℕ, max, true, false, List, Some, length, slice_get, Result, Ok, Err}
use Rattle.ason_base.specs.{declared.commands.Event.TheVariants.Deliver, declared.ids.NodeId.NodeId}
use Rattle.wire_buf.specs.Codecs.{HasOneMeaning}
use Rattle.flood.specs.Frames.{IsFrame}
use Rattle.control_channels.specs.declared.inputs.CoreInput.{CoreInput}
use Rattle.control_channels.specs.declared.inputs.CoreInput.TheVariants as input
use Rattle.station_rings.specs.{declared.parcel.Parcel.Parcel, LinkStates.LinkState}
use Rattle.round_rules.specs.{Entered.{HasEntered, able, me_of}, Moves.{IsChangedAt, IsDrained, IsTakenOf, TakesAt, peers_of}, States.StationState}
use Rattle.station.specs.{declared.halts.Halt.Halt, declared.links.Ahead.Ahead, Entering.{Gives, is_able_for}, Sending.IsHeadAt}
use Rattle.station.specs.declared.halts.Halt.TheVariants as halt

-- it is the first frame that waits early at this place, which leads to its sender
pub record IsAhead (a : Ahead) (links : List LinkState) : Type 0 where
  pub head : IsHeadAt a.head a.place links
  pub from : slice_get (peers_of links) a.place ≡ Some a.from

-- it is taken
pub record HasTaken (a : Ahead) (q : Parcel) (old : StationState) (links : List LinkState) : Type 0 where
  pub taken : IsChangedAt (IsTakenOf a.from q) a.place old.links links
  pub number : q.number ≡ a.head.number
  pub stamp : q.stamp ≡ a.head.stamp

-- as this input
pub record HasTakenAs (a : Ahead) (i : CoreInput) (old new : StationState) : Type 0 where
  pub parcel : Parcel
  pub links : List LinkState
  pub taken : HasTaken a parcel old links
  pub given : i ≡ input.Frame a.from parcel.frame
  pub rest : new ≡ record old { links = links }

-- and delivered
pub record HasDelivered (a : Ahead) (i : CoreInput) (old new : StationState) : Type 0 where
  pub parcel : Parcel
  pub links : List LinkState
  pub taken : HasTaken a parcel old links
  pub room : able (length old.log) (max old.clock a.head.stamp + 1) ≡ true
  pub given : i ≡ input.Frame a.from parcel.frame
  pub one : HasOneMeaning (IsFrame parcel.frame)
  pub entered :
      HasEntered (input.Frame a.from parcel.frame) (Deliver (me_of old) a.from parcel.number)
      (max old.clock parcel.stamp + 1) (record old { links = links }) new

-- and lost
pub record HasLost (a : Ahead) (old new : StationState) : Type 0 where
  pub parcel : Parcel
  pub links : List LinkState
  pub taken : HasTaken a parcel old links
  pub rest : new ≡ record old { links = links }

-- Of one place

-- a frame was taken there
pub record HasTakenAt (place : ℕ) (links after : List LinkState) : Type 0 where
  pub from : NodeId
  pub parcel : Parcel
  pub takes : TakesAt from parcel place links after

-- all that was known to stand there was taken
pub record IsDrainedAt (place : ℕ) (links after : List LinkState) : Type 0 where
  pub old : LinkState
  pub new : LinkState
  pub was : slice_get links place ≡ Some old
  pub is : slice_get after place ≡ Some new
  pub drained : IsDrained old new

-- Twice

-- How delivering a frame that was taken ends that is delivered twice.
abbrev pub GivesTwice : Result (Unit {0}) Halt → Ahead → CoreInput → StationState → StationState → Type 0
GivesTwice (Ok x) a i old new =
    (mid : StationState) × Gives (Ok tt) a.head a.from i old mid × (is_able_for a.head.stamp mid ≡ true)
    × Gives (Ok tt) a.head a.from i mid new
GivesTwice (Err halt.AtLimit) a i old new =
    Gives (Ok tt) a.head a.from i old new × (is_able_for a.head.stamp new ≡ false)
GivesTwice (Err halt.OutOfMemory) a i old new = (new ≡ old) ⊎ Gives (Ok tt) a.head a.from i old new
