-- The mesh that a world shows: its controllers without numbers, acknowledgements and channels that lose.
use Rattle.std.specs.Prelude.{◌≡◌, ℕ, List, [], ◌∷◌, ◌++◌, Option, Some, None}
use Rattle.ason_base.specs.{declared.ids.NodeId.NodeId, declared.messages.Msg.Msg, declared.commands.Event.Event, Network.Network, declared.network.TeRow.TeRow}
use Rattle.ason_base.specs.declared.commands.Event.TheVariants as world
use Rattle.flood.specs.{declared.frames.Content.Content, declared.frames.Content.TheVariants.{Message, Flood}, State.{learnt_of, pending_count}}
use Rattle.hop_reliable.specs.Schedules.{under_way}
use Rattle.mesh_rules.specs.{declared.events.MeshEvent.MeshEvent, declared.events.MeshEvent.TheVariants.{Take, Desk, Tick, Learn, Post}, Machine.Mesh}
use Rattle.world_rules.specs.{Worlds.{World, frame_at, handed_up}, WorldRuns.world_step}

-- Between two nodes are the messages that the sender's hop took for sending, in order, beyond those that the receiver's
-- hop handed up, whatever the channel has of them. All else is the world's. What is flooded is no part of it but for
-- what nodes learn.
abbrev pub image : World → Mesh
image w = record {
  nodes = w.nodes;
  desks = w.desks;
  mail = λ u d. under_way (w.ends u d) (w.ends d u);
  posted = w.posted;
  failed = w.failed;
}

-- The event of the mesh that an event of the world gives, if any

-- a message that is handed up is taken from the list
abbrev pub taken_of : NodeId → NodeId → List Msg → List MeshEvent
taken_of d u [] = []
taken_of d u (m ∷ ms) = Take d u ∷ []

-- a row that is new is learnt
abbrev pub learnt_by : NodeId → Option TeRow → List MeshEvent
learnt_by d None = []
learnt_by d (Some row) = Learn d row.link ∷ []

abbrev pub given_by_frame : World → NodeId → NodeId → Option Content → List MeshEvent
given_by_frame w d u None = []
given_by_frame w d u (Some (Message p)) = taken_of d u (handed_up w d u p)
given_by_frame w d u (Some (Flood m)) = learnt_by d (learnt_of (w.floods d.0) m)

abbrev pub given_by : World → Event → List MeshEvent
given_by w (world.Deliver d u k) = given_by_frame w d u (frame_at w u d k)
given_by w (world.Noise d u bytes) = []
given_by w (world.Tick n) = Tick n ∷ []
given_by w (world.Desk n) = Desk n ∷ []
given_by w (world.Post c) = Post c ∷ []

-- the events of the mesh that a run gives
abbrev pub mesh_events : Network → World → List Event → List MeshEvent
mesh_events t w [] = []
mesh_events t w (e ∷ es) = given_by w e ++ mesh_events t (world_step t w e) es

-- Quiet

-- every desk is empty, and no message and no row is unacknowledged: nothing that is due to a neighbour is left
pub record IsQuietWorld (w : World) : Type 0 where
  pub desks : (n : ℕ) → w.desks n ≡ []
  pub hops : (u d : ℕ) → (w.ends u d).hop.unacked ≡ []
  pub floods : (n : ℕ) → pending_count (w.floods n) ≡ 0
