-- The parts of a turn, as the code of a station makes them, and the doings that they are.
use Rattle.std.specs.Prelude.{◌≡◌, ◌≢◌, ◌+◌, ℕ, max, List, [], ◌∷◌, ◌++◌, drop, map, Option, Some}
use Rattle.ason_base.specs.{declared.ids.NodeId.NodeId, declared.commands.Command.Command, declared.commands.DeskItem.DeskItem, declared.commands.DisturbKind.DisturbKind, declared.commands.DisturbKind.TheVariants.Hold, declared.commands.Event.TheVariants.{Deliver, Desk, Tick}, Network.Network}
use Rattle.wire_buf.specs.Codecs.{HasOneMeaning}
use Rattle.flood.specs.{declared.frames.Content.Content, Frames.IsFrame}
use Rattle.control_channels.specs.declared.inputs.CoreInput.TheVariants as input
use Rattle.station_rings.specs.{declared.parcel.Parcel.Parcel, Links.LinkView, Steps.{HasListened, HasReacted, IsNoise, IsPosted}}
use Rattle.world_merge.specs.Deeds.{Heard, Posted}
use Rattle.round_rules.specs.{Doings.{Did, Doing, Freed, Left, Lost, Waiting, deeds_in}, Functions.{Popped, clock_of, with_delivered, got, with_handled, with_ticked}, Stands.{CameFrom, HoldingStation, StandsBy, parcel_ticked}}

-- The tick and the desk

-- the clock goes on by one, and each parcel that is held saw a tick more
abbrev pub TicksStand : Type 0
TicksStand =
    (t : Network) (n : NodeId) (ds : List Doing) (old new : HoldingStation) → StandsBy t n ds old →
    HasReacted n old.station new.station input.Tick (Tick n) → new.station.desk ≡ old.station.desk →
    new.station.clock ≡ old.station.clock + 1 → new.held ≡ map parcel_ticked old.held →
    StandsBy t n (with_ticked ds) new

abbrev pub ItemsStand : Type 0
ItemsStand =
    (t : Network) (n : NodeId) (ds : List Doing) (i : DeskItem) (old new : HoldingStation) → StandsBy t n ds old →
    HasReacted n old.station new.station (input.Desk i) (Desk n) → old.station.desk ≡ i ∷ new.station.desk →
    new.station.clock ≡ old.station.clock + 1 → new.held ≡ old.held → StandsBy t n (with_handled ds) new

-- Taking

-- frames come out of rings: nothing is done
abbrev pub ListeningStands : Type 0
ListeningStands =
    (t : Network) (n : NodeId) (ds : List Doing) (old new : HoldingStation) → StandsBy t n ds old →
    HasListened old.station new.station → new.held ≡ old.held → StandsBy t n ds new

-- a frame is taken that isn't to be held
abbrev pub TakingStands : Type 0
TakingStands =
    (t : Network) (n : NodeId) (ds : List Doing) (s : HoldingStation) (p : Popped) (o : Option DisturbKind) →
    StandsBy t n ds s → o ≢ Some Hold → StandsBy t n (got ds p o) s

-- a frame is taken, and its parcel is held
abbrev pub HoldingStands : Type 0
HoldingStands =
    (t : Network) (n : NodeId) (ds : List Doing) (old new : HoldingStation) (q : Parcel) (p : Popped) →
    StandsBy t n ds old → new.station ≡ old.station → CameFrom old.station.links p.from q → q.number ≡ p.number →
    new.held ≡ old.held ++ record { from = p.from; parcel = q; ticks = 0 } ∷ [] →
    StandsBy t n (got ds p (Some Hold)) new

-- the first parcel that is held is let go
abbrev pub FreeingStands : Type 0
FreeingStands =
    (t : Network) (n : NodeId) (ds : List Doing) (old new : HoldingStation) → StandsBy t n ds old →
    new.station ≡ old.station → new.held ≡ drop 1 old.held → StandsBy t n (ds ++ Freed ∷ []) new

-- Delivering

-- A parcel that came, and bears this and nothing else, is delivered. The clock becomes one more than the greater of
-- itself and the parcel's stamp.
pub record HasDelivered (n : NodeId) (old new : HoldingStation) (from : NodeId) (q : Parcel)
    (x : Content) : Type 0 where
  pub came : CameFrom old.station.links from q
  pub content : came.content ≡ x
  pub one : HasOneMeaning (IsFrame q.frame)
  pub clock : new.station.clock ≡ max old.station.clock q.stamp + 1
  pub reacted : HasReacted n old.station new.station (input.Frame from q.frame) (Deliver n from q.number)
  pub desk : new.station.desk ≡ old.station.desk
  pub held : new.held ≡ old.held

abbrev pub DeliveriesStand : Type 0
DeliveriesStand =
    (t : Network) (n : NodeId) (ds : List Doing) (old new : HoldingStation) (q : Parcel) (p : Popped) →
    StandsBy t n ds old → q.number ≡ p.number → q.stamp ≡ p.stamp → HasDelivered n old new p.from q p.content →
    StandsBy t n (with_delivered ds p) new

-- What a turn couldn't do

-- a frame that was popped is lost for want of memory
abbrev pub LosingStands : Type 0
LosingStands =
    (t : Network) (n : NodeId) (ds : List Doing) (s : HoldingStation) (u : NodeId) (k : ℕ) → StandsBy t n ds s →
    StandsBy t n (ds ++ Lost u k ∷ []) s

-- an input is left, since the log is full
abbrev pub LeavingStands : Type 0
LeavingStands =
    (t : Network) (n : NodeId) (ds : List Doing) (s : HoldingStation) (w : Waiting) → StandsBy t n ds s →
    StandsBy t n (ds ++ Left w ∷ []) s

-- Beside a turn

-- bytes that spell nothing came from a neighbour
abbrev pub NoiseStands : Type 0
NoiseStands =
    (t : Network) (n : NodeId) (ds : List Doing) (l : LinkView) (bytes : List ℕ) (old new : HoldingStation) →
    StandsBy t n ds old → IsNoise n old.station new.station l bytes → new.station.clock ≡ old.station.clock + 1 →
    new.held ≡ old.held → StandsBy t n (ds ++ Did (Heard (clock_of ds + 1) l.peer bytes) ∷ []) new

abbrev pub PostsStand : Type 0
PostsStand =
    (t : Network) (n : NodeId) (ds : List Doing) (c : Command) (old new : HoldingStation) → StandsBy t n ds old →
    IsPosted t n (deeds_in ds) c old.station new.station → new.held ≡ old.held →
    StandsBy t n (ds ++ Did (Posted new.station.clock c) ∷ []) new
