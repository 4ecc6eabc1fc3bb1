-- What holds of every run of a world.
use Rattle.std.specs.Prelude.{◌≡◌, ◌≢◌, ◌≤◌, ◌↔◌, ℕ, Contains, List, [], None, Some, map, true}
use Rattle.ason_base.specs.{declared.limits.TheConstants.MOST_EVENTS, declared.ids.NodeId.NodeId, declared.messages.Packet.Packet, declared.commands.Event.Event, declared.commands.Event.TheVariants.{Deliver, Noise}, declared.network.LinkSpec.LinkSpec, declared.network.TeRow.TeRow, Network.{IsTopology, Network, find_link, row_of}}
use Rattle.flood.specs.{declared.frames.Content.TheVariants.{Message, Flood}, declared.messages.FloodMsg.FloodMsg, Networks.{FloodEvent, FloodNetwork, begun}, NetworkLaws.AreJoined, State.{is_end, learnt_of}}
use Rattle.flood.specs.Networks as floods
use Rattle.hop_reliable.specs.declared.heard.Heard.TheVariants.{Next}
use Rattle.mesh_rules.specs.{KnownRows.known_rows, LocalNodes.local_node}
use Rattle.mesh_rules.specs.Machine as mesh
use Rattle.mesh_rules.specs.Events as mesh_runs
use Rattle.mesh_rules.specs.Quiet as mesh_quiet
use Rattle.mesh_laws.specs.StateLaws.{LawsHold}
use Rattle.world_rules.specs.{Frames.{floods_of, packets_of}, Worlds.{World, world_start, frame_at, heard_at}, WorldRuns.{IsWorldRun, world_after, event_count, world_step}, Images.{image, mesh_events, IsQuietWorld}}

-- the events that a run of a world gives are a run of the mesh, which leads to the image of the last world
pub record IsShown (t : Network) (events : List Event) : Type 0 where
  pub run : mesh_runs.IsRun t mesh.start (mesh_events t (world_start t) events)
  pub leads : mesh_runs.after t mesh.start (mesh_events t (world_start t) events)
      ≡ image (world_after t (world_start t) events)

-- Each link is the one that is found by its number, as in every topology. The mesh's `Learn` names a link by its
-- number, and the node learns the row of the link that is found so. Where another link has the number too, a flood may
-- bring that one's row first: then the node knows in the world what no event of the mesh makes it know, as is worked
-- out in `proofs/Twice`.
abbrev pub EachIsFound : Network → Type 0
EachIsFound t = (l : LinkSpec) → Contains t.links l → find_link t l.id ≡ Some l

abbrev pub TopologiesFindEach : Type 0
TopologiesFindEach = (t : Network) → IsTopology t → EachIsFound t

-- over every network where numbers tell links apart
abbrev pub EveryRunIsShown : Type 0
EveryRunIsShown = (t : Network) (events : List Event) → EachIsFound t → IsWorldRun t (world_start t) events →
    IsShown t events

-- what was sent on a channel is what the sender's end of the hop made
abbrev pub ChannelsHaveTheFrames : Type 0
ChannelsHaveTheFrames =
    (t : Network) (events : List Event) → IsWorldRun t (world_start t) events → (u d : ℕ) →
    packets_of ((world_after t (world_start t) events).channels u d)
    ≡ ((world_after t (world_start t) events).ends u d).frames

-- each node made the events of it that are in the run, at most 50,000
pub record IsCounted (t : Network) (events : List Event) (n : ℕ) : Type 0 where
  pub made : (world_after t (world_start t) events).made n ≡ event_count n events
  pub most : event_count n events ≤ MOST_EVENTS

abbrev pub EventsAreCounted : Type 0
EventsAreCounted = (t : Network) (events : List Event) → IsWorldRun t (world_start t) events → (n : ℕ) →
    IsCounted t events n

-- noise leaves the image as it was
abbrev pub NoiseIsNotShown : Type 0
NoiseIsNotShown =
    (t : Network) (w : World) (d u : NodeId) (bytes : List ℕ) → image (world_step t w (Noise d u bytes)) ≡ image w

-- so does a packet that isn't the next one: an acknowledgement, a message that was handed up before, or one that is
-- ahead
abbrev pub OnlyTheNextIsShown : Type 0
OnlyTheNextIsShown =
    (t : Network) (w : World) (d u : NodeId) (k : ℕ) (p : Packet) → frame_at w u d k ≡ Some (Message p) →
    heard_at w d u p ≢ Next → image (world_step t w (Deliver d u k)) ≡ image w

-- so does a flood message of which the node learns nothing
abbrev pub OnlyNewRowsAreShown : Type 0
OnlyNewRowsAreShown =
    (t : Network) (w : World) (d u : NodeId) (k : ℕ) (m : FloodMsg) → frame_at w u d k ≡ Some (Flood m) →
    learnt_of (w.floods d.0) m ≡ None → image (world_step t w (Deliver d u k)) ≡ image w

-- every desk is empty, and no message is unacknowledged, though a row may be
pub record IsWithoutMessages (w : World) : Type 0 where
  pub desks : (n : ℕ) → w.desks n ≡ []
  pub hops : (u d : ℕ) → (w.ends u d).hop.unacked ≡ []

-- then no message is under way
abbrev pub QuietIsShown : Type 0
QuietIsShown =
    (t : Network) (events : List Event) → IsWorldRun t (world_start t) events →
    IsWithoutMessages (world_after t (world_start t) events) →
    mesh_quiet.IsQuiet (image (world_after t (world_start t) events))

-- the laws of the mesh hold of the image of each world that a run leads to
abbrev pub EveryImageHasTheLaws : Type 0
EveryImageHasTheLaws =
    (t : Network) (events : List Event) → EachIsFound t → IsWorldRun t (world_start t) events →
    LawsHold t (mesh_events t (world_start t) events)

-- Floods

-- what is flooded: what each node knows and which rows are due to its neighbours, and the flood messages that were sent
abbrev pub flooding : World → FloodNetwork
flooding w = record { nodes = w.floods; channels = λ u d. floods_of (w.channels u d) }

-- it is what ticks, and messages that were taken, make of nodes that declared the rows of their own links
abbrev pub FloodingIsANetworks : Type 0
FloodingIsANetworks =
    (t : Network) (events : List Event) → IsWorldRun t (world_start t) events → (happened : List FloodEvent) ×
    (floods.floods_after (begun (map row_of t.links)) happened ≡ flooding (world_after t (world_start t) events))

-- the rows that the node n knows in this world
abbrev pub known_at : Network → World → NodeId → List TeRow
known_at t w n = known_rows (local_node t n) (w.nodes n.0)

-- what a node knows of links is what it floods
abbrev pub KnownIsFlooded : Type 0
KnownIsFlooded =
    (t : Network) (events : List Event) → IsWorldRun t (world_start t) events → (n : NodeId) →
    known_at t (world_after t (world_start t) events) n ≡ ((world_after t (world_start t) events).floods n.0).rows

-- and it is rows of the network
abbrev pub KnownIsTrue : Type 0
KnownIsTrue =
    (t : Network) (events : List Event) → IsWorldRun t (world_start t) events → (n : NodeId) (row : TeRow) →
    Contains (known_at t (world_after t (world_start t) events) n) row → Contains (map row_of t.links) row

-- nodes that a walk joins know the same
abbrev pub KnowTheSame : Network → World → Type 0
KnowTheSame t w =
    (a b : NodeId) → AreJoined (map row_of t.links) a b → (row : TeRow) →
    Contains (known_at t w a) row ↔ Contains (known_at t w b) row

-- and they know the rows of each other's links
abbrev pub KnowTheLinks : Network → World → Type 0
KnowTheLinks t w =
    (a b : NodeId) → AreJoined (map row_of t.links) a b → (row : TeRow) → Contains (map row_of t.links) row →
    is_end a row ≡ true → Contains (known_at t w b) row

-- where nothing is unacknowledged
abbrev pub JoinedKnowTheSame : Type 0
JoinedKnowTheSame =
    (t : Network) (events : List Event) → IsTopology t → IsWorldRun t (world_start t) events →
    IsQuietWorld (world_after t (world_start t) events) → KnowTheSame t (world_after t (world_start t) events)

abbrev pub JoinedKnowTheLinks : Type 0
JoinedKnowTheLinks =
    (t : Network) (events : List Event) → IsTopology t → IsWorldRun t (world_start t) events →
    IsQuietWorld (world_after t (world_start t) events) → KnowTheLinks t (world_after t (world_start t) events)
