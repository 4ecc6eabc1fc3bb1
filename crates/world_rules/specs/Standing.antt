-- A controller stands for a node of a world: it keeps what the node keeps, and its hops are the node's ends.
use Rattle.std.specs.Prelude.{◌≡◌, ℕ, ◌==◌, false, List, ◌∷◌, ◌++◌, map, filter, Some, IsTrue}
use Rattle.ason_base.specs.{declared.ids.NodeId.NodeId, declared.commands.DeskItem.DeskItem, declared.commands.Event.Event, declared.commands.Event.TheVariants.{Deliver, Noise, Tick, Desk}, Network.Network}
use Rattle.flood.specs.{declared.frames.Content.Content, State.FloodState}
use Rattle.flood.specs.State as flood
use Rattle.mesh_nodes.specs.LocalNodes.{is_neighbour}
use Rattle.mesh_rules.specs.{LocalNodes.local_node, State.NodeState}
use Rattle.control_channels.specs.{declared.adjacencies.Adjacency.Adjacency, Adjacencies.{hop_at, neighbours, peer_numbers}, Controllers.{ControllerState, Meaning, Stepped, after_tick, flood_after, item_handled, meaning, took_frame, unmoved}, Frames.Sending}
use Rattle.world_rules.specs.{Worlds.{World, delivered, frame_at, with_event}, WorldRuns.{is_world_channel, is_event_of, world_step}}

pub record StandsAt (w : World) (n : ℕ) (c : Meaning) : Type 0 where
  pub state : c.state ≡ w.nodes n
  pub hops : (d : ℕ) → c.hops d ≡ (w.ends n d).hop

-- the controller and the desk are what the world has of the node n
pub record NodeStands (t : Network) (w : World) (n : NodeId) (c : ControllerState)
    (items : List DeskItem) : Type 0 where
  pub place : c.node.place ≡ local_node t n
  pub stands : StandsAt w n.0 (meaning c.node c.adjacencies)
  pub flood : c.flood ≡ w.floods n.0
  pub hops : peer_numbers c.adjacencies ≡ neighbours (local_node t n)
  pub desk : items ≡ w.desks n.0
  pub made : c.steps ≡ w.made n.0

-- what goes to this node
abbrev pub contents_to : ℕ → List Sending → List Content
contents_to d sendings = map (λ s. s.content) (filter (λ s. s.to.0 == d) sendings)

-- From one world to the next the node n makes this step: the controller to which it leads stands for the node, this is
-- flooded there, and the channels from there get what it sends.
pub record IsStepOf (old new : World) (n : ℕ) (s : Stepped) (f : FloodState) : Type 0 where
  pub stands : StandsAt new n s.after
  pub flood : f ≡ new.floods n
  pub channels : (d : ℕ) → new.channels n d ≡ old.channels n d ++ contents_to d s.sendings

-- a frame that bears this is delivered, wherever it comes from
abbrev pub ContentsAreTaken : Type 0
ContentsAreTaken =
    (t : Network) (w : World) (d u : NodeId) (x : Content) (c : Meaning) → StandsAt w d.0 c →
    IsStepOf w (delivered t (with_event w d.0) d u (Some x)) d.0 (took_frame (local_node t d) c (w.floods d.0) u x)
    (flood_after (w.floods d.0) u x)

-- a frame of a channel is delivered
abbrev pub DeliveriesAreTaken : Type 0
DeliveriesAreTaken =
    (t : Network) (w : World) (d u : NodeId) (k : ℕ) (x : Content) (c : Meaning) → StandsAt w d.0 c →
    frame_at w u d k ≡ Some x →
    IsStepOf w (world_step t w (Deliver d u k)) d.0 (took_frame (local_node t d) c (w.floods d.0) u x)
    (flood_after (w.floods d.0) u x)

-- bytes that spell nothing reach a node
abbrev pub NoiseMovesNothing : Type 0
NoiseMovesNothing =
    (t : Network) (w : World) (d u : NodeId) (bytes : List ℕ) (c : Meaning) → StandsAt w d.0 c →
    IsStepOf w (world_step t w (Noise d u bytes)) d.0 (unmoved c) (w.floods d.0)

-- the first item of a desk is handled
abbrev pub ItemsAreHandled : Type 0
ItemsAreHandled =
    (t : Network) (w : World) (n : NodeId) (i : DeskItem) (items : List DeskItem) (c : Meaning) → StandsAt w n.0 c →
    w.desks n.0 ≡ i ∷ items → IsStepOf w (world_step t w (Desk n)) n.0 (item_handled (local_node t n) c i) (w.floods n.0)

-- a node ticks, with a hop to each neighbour
abbrev pub TicksAreTicked : Type 0
TicksAreTicked =
    (t : Network) (w : World) (n : NodeId) (s : NodeState) (adjacencies : List Adjacency) →
    StandsAt w n.0 (record {
      state =
          s;
      hops = hop_at adjacencies;
    }) → peer_numbers adjacencies ≡ neighbours (local_node t n) →
    IsStepOf w (world_step t w (Tick n)) n.0 (after_tick (local_node t n) s adjacencies (w.floods n.0))
    (flood.ticked_flood (w.floods n.0))

-- what the node m keeps, its ends, what it floods and the channels from it stay
pub record IsUntouched (old new : World) (m : ℕ) : Type 0 where
  pub nodes : new.nodes m ≡ old.nodes m
  pub ends : (d : ℕ) → new.ends m d ≡ old.ends m d
  pub floods : new.floods m ≡ old.floods m
  pub channels : (d : ℕ) → new.channels m d ≡ old.channels m d

-- an event of another node, or a post
abbrev pub OthersAreUntouched : Type 0
OthersAreUntouched =
    (t : Network) (w : World) (e : Event) (m : ℕ) → is_event_of m e ≡ false → IsUntouched w (world_step t w e) m

-- a channel leads to a node from its neighbour
abbrev pub ChannelsJoinNeighbours : Type 0
ChannelsJoinNeighbours =
    (t : Network) (u d : NodeId) → IsTrue (is_world_channel t u d) → IsTrue (is_neighbour (local_node t d) u)
