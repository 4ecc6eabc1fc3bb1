-- The seat of a node: its controller, its desk, and the channels that lead from it.
use Rattle.std.specs.Prelude.{◌≡◌, ℕ, ◌==◌, ◌&&◌, nat_lt, Bool, true, List, [], ◌∷◌, ◌++◌, map, Option, Some, None, find, is_some, length, slice_set}
use Rattle.ason_base.specs.{declared.limits.TheConstants.MOST_EVENTS, declared.ids.NodeId.NodeId, declared.commands.DeskItem.DeskItem, declared.commands.Group.Group, declared.network.LinkSpec.LinkSpec, Network.Network}
use Rattle.flood.specs.State.{pending_count}
use Rattle.mesh_nodes.specs.LocalNodes.{is_neighbour}
use Rattle.mesh_rules.specs.{Events.has_first, Failures.{all_news, changed_news}, LocalNodes.local_node}
use Rattle.control_channels.specs.{declared.frames.Frame.Frame, declared.inputs.CoreInput.CoreInput, Adjacencies.{neighbours, peer_numbers}, Controllers.{ControllerState, IsControllerStep, meaning}, ReadyControllers.{new_controller, unacknowledged}}
use Rattle.control_channels.specs.declared.inputs.CoreInput.TheVariants as input
use Rattle.world_core.specs.{declared.acts.Act.Act, declared.acts.Act.TheVariants.{Take, Tick, Handle}, Channels.{AreSent, ChannelState, HasFrames, channel_to, frame_on, new_channel, receivers}}
use Rattle.world_rules.specs.{WorldRuns.is_world_channel, Standing.StandsAt, Worlds.World}

pub record SeatState : Type 0 where
  pub node : NodeId
  pub controller : ControllerState
  pub desk : List DeskItem
  pub channels : List ChannelState

-- the node keeps nothing and sent nothing
abbrev pub new_seat : Network → NodeId → SeatState
new_seat t n = record {
  node = n;
  controller = new_controller t n;
  desk = [];
  channels = map new_channel (receivers t n);
}

-- Which seat

abbrev pub is_seat_at : ℕ → SeatState → Bool
is_seat_at n s = s.node.0 == n

-- the node's seat, where it made fewer events than a node makes at most
abbrev pub is_able : ℕ → SeatState → Bool
is_able n s = s.node.0 == n && nat_lt s.controller.steps MOST_EVENTS

abbrev pub seat_channel : Option SeatState → ℕ → Option ChannelState
seat_channel None d = None
seat_channel (Some s) d = channel_to s.channels d

-- the channel from u to d
abbrev pub channel_between : List SeatState → NodeId → NodeId → Option ChannelState
channel_between seats u d = seat_channel (find (is_seat_at u.0) seats) d.0

abbrev pub is_channel_there : List SeatState → NodeId → NodeId → Bool
is_channel_there seats u d = is_some (channel_between seats u d)

-- the bytes of the frame with this number on it
abbrev pub frame_there : List SeatState → NodeId → NodeId → ℕ → Option (List ℕ)
frame_there seats u d k = frame_on (channel_between seats u d) k

-- What a node does

abbrev pub can_do : SeatState → Act → Bool
can_do s (Take u bytes) = is_neighbour s.controller.node.place u
can_do s Tick = true
can_do s Handle = has_first s.desk

-- the controller takes an input, and what it sends goes on the channels
pub record SeatHasReacted (old new : SeatState) (i : CoreInput) : Type 0 where
  pub frames : List Frame
  pub step : IsControllerStep old.controller new.controller i frames
  pub sent : AreSent frames old.channels new.channels
  pub node : new.node ≡ old.node

-- an item that is handled was the first of the desk
abbrev pub HasDone : SeatState → Act → SeatState → Type 0
HasDone old (Take u bytes) new = SeatHasReacted old new (input.Frame u bytes) × (new.desk ≡ old.desk)
HasDone old Tick new = SeatHasReacted old new input.Tick × (new.desk ≡ old.desk)
HasDone old Handle new = (i : DeskItem) × (old.desk ≡ i ∷ new.desk) × SeatHasReacted old new (input.Desk i)

-- the seat at a place does this, and no other changes
pub record HasDoneAt (before : List SeatState) (place : ℕ) (seat : SeatState) (a : Act)
    (after : List SeatState) : Type 0 where
  pub new : SeatState
  pub done : HasDone seat a new
  pub seats : after ≡ slice_set before place new

-- with an item more at the end of the desk
abbrev pub seat_with_item : DeskItem → SeatState → SeatState
seat_with_item i s = record s { desk = s.desk ++ i ∷ [] }

-- with what the node is told of a link at the end of the desk, where other groups have failed than before
abbrev pub told_of : List Group → List Group → LinkSpec → SeatState → SeatState
told_of before after l s = record s { desk = s.desk ++ changed_news before after s.node.0 l }

-- of each link
abbrev pub told_seat : Network → List Group → List Group → SeatState → SeatState
told_seat t before after s = record s { desk = s.desk ++ all_news t before after s.node.0 }

-- nothing waits on the desk, and each message and each row that the node sends is acknowledged
abbrev pub is_quiet : SeatState → Bool
is_quiet s =
    length s.desk == 0 && unacknowledged s.controller.adjacencies == 0 && pending_count s.controller.flood == 0

-- The node of a world

-- the controller, the desk and the channels are what the world has of the node
pub record SeatStands (t : Network) (w : World) (s : SeatState) : Type 0 where
  pub place : s.controller.node.place ≡ local_node t s.node
  pub stands : StandsAt w s.node.0 (meaning s.controller.node s.controller.adjacencies)
  pub flood : s.controller.flood ≡ w.floods s.node.0
  pub hops : peer_numbers s.controller.adjacencies ≡ neighbours (local_node t s.node)
  pub made : s.controller.steps ≡ w.made s.node.0
  pub desk : s.desk ≡ w.desks s.node.0
  pub channels : (d : NodeId) → is_some (channel_to s.channels d.0) ≡ is_world_channel t s.node d
  pub frames : (d : NodeId) (c : ChannelState) → channel_to s.channels d.0 ≡ Some c →
      HasFrames s.node (w.channels s.node.0 d.0) c.frames
