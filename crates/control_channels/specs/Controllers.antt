-- One controller: what it is after an input, and what it sends.
use Rattle.std.specs.{Prelude.{◌≡◌, ◌+◌, ◌==◌, ℕ, Option, None, Some, List, [], ◌++◌, map, if◌then◌else◌}, Option.option_to_list, List.flat_map}
use Rattle.wire_buf.specs.Codecs.{HasOneMeaning}
use Rattle.ason_base.specs.{declared.commands.DeskItem.DeskItem, declared.ids.NodeId.NodeId, declared.messages.Msg.Msg, declared.messages.Packet.Packet, declared.network.TeRow.TeRow}
use Rattle.flood.specs.{declared.frames.Content.Content, declared.frames.Content.TheVariants.{Message, Flood}, declared.messages.FloodMsg.FloodMsg, Frames.{IsFrame, SpellsNothing}, State.{FloodState, learnt_of, sends_after, sent_at_tick}}
use Rattle.flood.specs.State as flood
use Rattle.hop_reliable.specs.{declared.heard.Heard.Heard, declared.heard.Heard.TheVariants.{Acked, Unnumbered, Ahead, Repeat, Next}, Hop.{HopState, answers_to, handed_up_of, heard_as, received, ticked}}
use Rattle.mesh_rules.specs.{Changes.{Answer, changed}, Events.on_first, Learnt.on_row, LocalNodes.LocalNode, Orders.on_item, Waits.on_tick, State.NodeState}
use Rattle.mesh_nodes.specs.Nodes.{NodeView}
use Rattle.control_channels.specs.{declared.adjacencies.Adjacency.Adjacency, declared.frames.Frame.Frame, declared.inputs.CoreInput.CoreInput, Adjacencies.{again_to, hop_at, packets_on, peer_numbers, rested, sent_on}, Frames.{AllSpelled, Sending, frames_to}}
use Rattle.control_channels.specs.declared.inputs.CoreInput.TheVariants as input

-- a node, its hops in order of neighbour, what it floods, and how many steps it made
pub record ControllerState : Type 0 where
  pub node : NodeView
  pub adjacencies : List Adjacency
  pub flood : FloodState
  pub steps : ℕ

-- what the node and its hops mean: what the node keeps, and its end of the hop to each neighbour
pub record Meaning : Type 0 where
  pub state : NodeState
  pub hops : ℕ → HopState

abbrev pub meaning : NodeView → List Adjacency → Meaning
meaning n adjacencies = record { state = n.state; hops = hop_at adjacencies }

-- what a step leads to, and what it sends, in order
pub record Stepped : Type 0 where
  pub after : Meaning
  pub sendings : List Sending

-- the rule's answer is carried out, and what it sends goes to the hops; these packets go before
abbrev pub carried : (ℕ → HopState) → NodeState → Answer → List Sending → Stepped
carried hops s a first = record {
  after = record { state = changed s a; hops = sent_on hops a.sent };
  sendings = first ++ packets_on hops a.sent;
}

-- A packet from u

-- its acknowledgement
abbrev pub acks_to : NodeId → Heard → Packet → List Sending
acks_to u v p = map (λ q. record { to = u; content = Message q }) (answers_to v p)

-- the hops after it
abbrev pub heard_hops : (ℕ → HopState) → NodeId → Packet → ℕ → HopState
heard_hops hops u p d = if d == u.0 then received (hops d) p else hops d

-- what is handed up of a body that was heard so
abbrev pub handed_body : Heard → Option Msg → List Msg
handed_body Next body = option_to_list body
handed_body Acked body = []
handed_body Unnumbered body = []
handed_body Ahead body = []
handed_body Repeat body = []

-- the acknowledgement goes first, then what the rule of what is handed up sends
abbrev pub took : LocalNode → Meaning → NodeId → Packet → Stepped
took p c u q =
    carried (heard_hops c.hops u q) c.state (on_first p c.state u (handed_up_of (heard_as (c.hops u.0) q) q))
    (acks_to u (heard_as (c.hops u.0) q) q)

-- A flood message from u

-- these flood messages go out
abbrev pub floods_to : List (NodeId × FloodMsg) → List Sending
floods_to sends = map (λ s. record { to = s.0; content = Flood s.1 }) sends

-- the node learns a row, if there is one
abbrev pub with_learnt : LocalNode → NodeState → Option TeRow → NodeState
with_learnt p s None = s
with_learnt p s (Some row) = changed s (on_row p s row)

-- The acknowledgement of a row goes first, then the row to the other neighbours, where it is new. The node learns it.
abbrev pub took_flood : LocalNode → Meaning → FloodState → NodeId → FloodMsg → Stepped
took_flood p c f u m = record {
  after = record { state = with_learnt p c.state (learnt_of f m); hops = c.hops };
  sendings = floods_to (sends_after f u m);
}

-- A frame from u

-- what it bears is taken
abbrev pub took_frame : LocalNode → Meaning → FloodState → NodeId → Content → Stepped
took_frame p c f u (Message q) = took p c u q
took_frame p c f u (Flood m) = took_flood p c f u m

-- what is flooded after it
abbrev pub flood_after : FloodState → NodeId → Content → FloodState
flood_after f u (Message q) = f
flood_after f u (Flood m) = flood.flood_received f u m

-- bytes that spell nothing
abbrev pub unmoved : Meaning → Stepped
unmoved c = record { after = c; sendings = [] }

-- An item of the desk, and a tick

abbrev pub item_handled : LocalNode → Meaning → DeskItem → Stepped
item_handled p c i = carried c.hops c.state (on_item p c.state i) []

-- messages that are due go again, then rows that are due, both by neighbour and then by number, before what the rule
-- sends
abbrev pub after_tick : LocalNode → NodeState → List Adjacency → FloodState → Stepped
after_tick p s adjacencies f =
    carried (λ d. ticked (hop_at adjacencies d)) s (on_tick p s)
    (flat_map again_to adjacencies ++ floods_to (sent_at_tick f))

-- The steps of a node over its hops

abbrev pub packet_step : NodeView → List Adjacency → NodeId → Packet → Stepped
packet_step n adjacencies u p = took n.place (meaning n adjacencies) u p

abbrev pub item_step : NodeView → List Adjacency → DeskItem → Stepped
item_step n adjacencies i = item_handled n.place (meaning n adjacencies) i

abbrev pub tick_step : NodeView → List Adjacency → FloodState → Stepped
tick_step n adjacencies f = after_tick n.place n.state adjacencies f

abbrev pub frame_step : NodeView → List Adjacency → FloodState → NodeId → Content → Stepped
frame_step n adjacencies f u c = took_frame n.place (meaning n adjacencies) f u c

-- bytes that spell nothing
abbrev pub idle_step : NodeView → List Adjacency → Stepped
idle_step n adjacencies = unmoved (meaning n adjacencies)

-- the packets of an answer go out in frames, behind those that stand in the list
abbrev pub AddsAnswer : NodeView → List Adjacency → Answer → List Frame → List Frame → Type 0
AddsAnswer n adjacencies a old new = new ≡ old ++ frames_to n.place.id (packets_on (hop_at adjacencies) a.sent)

abbrev pub AnswerIsSpelled : NodeView → List Adjacency → Answer → Type 0
AnswerIsSpelled n adjacencies a = AllSpelled n.place.id (packets_on (hop_at adjacencies) a.sent)

-- What a step makes

-- the node and the hops mean this; the node knows the same of itself, the neighbours are the same, and nothing is
-- prepared
pub record Becomes (n m : NodeView) (before after : List Adjacency) (c : Meaning) : Type 0 where
  pub place : m.place ≡ n.place
  pub state : m.state ≡ c.state
  pub hops : (d : ℕ) → hop_at after d ≡ c.hops d
  pub peers : peer_numbers after ≡ peer_numbers before
  pub rest : map rested after ≡ after

-- and just these frames go out, each of which spells what its sending bears
pub record IsMade (n m : NodeView) (before after : List Adjacency) (s : Stepped) (out : List Frame) : Type 0 where
  pub becomes : Becomes n m before after s.after
  pub frames : out ≡ frames_to n.place.id s.sendings
  pub spelled : AllSpelled n.place.id s.sendings

-- the parts that an input changes
pub record Parts : Type 0 where
  pub node : NodeView
  pub adjacencies : List Adjacency
  pub flood : FloodState

abbrev pub parts : NodeView → List Adjacency → FloodState → Parts
parts n adjacencies f = record { node = n; adjacencies = adjacencies; flood = f }

abbrev pub parts_of : ControllerState → Parts
parts_of c = parts c.node c.adjacencies c.flood

-- the node and its hops make this step, and this is flooded after it
pub record AreMade (c d : Parts) (s : Stepped) (f : FloodState) (out : List Frame) : Type 0 where
  pub made : IsMade c.node d.node c.adjacencies d.adjacencies s out
  pub flood : d.flood ≡ f

-- A frame: for whatever its bytes spell, and for bytes that spell nothing. An item of the desk. A tick.
abbrev pub IsReaction : Parts → Parts → CoreInput → List Frame → Type 0
IsReaction c d (input.Frame u bytes) frames =
    ((x : Content) → IsFrame bytes x →
    AreMade c d (frame_step c.node c.adjacencies c.flood u x) (flood_after c.flood u x) frames)
    × (SpellsNothing bytes → AreMade c d (idle_step c.node c.adjacencies) c.flood frames)
IsReaction c d input.Tick frames =
    AreMade c d (tick_step c.node c.adjacencies c.flood) (flood.ticked_flood c.flood) frames
IsReaction c d (input.Desk i) frames = AreMade c d (item_step c.node c.adjacencies i) c.flood frames

pub record IsControllerStep (c d : ControllerState) (i : CoreInput) (frames : List Frame) : Type 0 where
  pub reaction : IsReaction (parts_of c) (parts_of d) i frames
  pub steps : d.steps ≡ c.steps + 1

-- the bytes of a frame have one meaning at most
abbrev pub IsUnambiguous : CoreInput → Type 0
IsUnambiguous (input.Frame u bytes) = HasOneMeaning (IsFrame bytes)
IsUnambiguous input.Tick = Unit {0}
IsUnambiguous (input.Desk i) = Unit {0}
