-- A world: the controllers of a network, and the channels between them, on which frames are lost, come twice or late.
use Rattle.std.specs.Prelude.{ℕ, zero, suc, ◌+◌, ◌==◌, ◌&&◌, List, [], ◌∷◌, ◌++◌, map, Option, Some, None, slice_get, if◌then◌else◌}
use Rattle.ason_base.specs.{declared.ids.NodeId.NodeId, declared.ids.CallNo.CallNo, declared.commands.DeskItem.DeskItem, declared.commands.Group.Group, declared.messages.Msg.Msg, declared.messages.Packet.Packet, Network.{Network, row_of}}
use Rattle.flood.specs.{declared.frames.Content.Content, declared.frames.Content.TheVariants.{Message, Flood}, declared.messages.FloodMsg.FloodMsg, Networks.{begun_node, sent_to_node}, State.{FloodState, learnt_of, sends_after, sent_at_tick}}
use Rattle.flood.specs.State as flood
use Rattle.hop_reliable.specs.{declared.heard.Heard.Heard, Hop.{answers_to, handed_up_of, heard_as, numbered, resent}, Schedules.{HopEnd, idle, end_sends, end_takes, end_ticks}}
use Rattle.mesh_rules.specs.{Changes.{Answer, changed}, LocalNodes.local_node, Machine.sent_to, Messages.on_message, Waits.on_tick, State.{NodeState, new_node}}
use Rattle.control_channels.specs.Controllers.{with_learnt}

pub record World : Type 0 where
  pub nodes : ℕ → NodeState
  pub desks : ℕ → List DeskItem
  -- at the first node, the end of its hop to the second
  pub ends : ℕ → ℕ → HopEnd
  pub floods : ℕ → FloodState
  -- all that was ever sent from the first node to the second, the oldest first
  pub channels : ℕ → ℕ → List Content
  -- the call numbers of all setups that were posted
  pub posted : List CallNo
  -- the groups that have failed, and weren't repaired since
  pub failed : List Group
  -- how many events each node made
  pub made : ℕ → ℕ

-- nothing stands, nothing was sent, and nothing has failed; the rows of a node's own links are due to each of its neighbours
abbrev pub world_start : Network → World
world_start t = record {
  nodes = λ n. new_node;
  desks = λ n. [];
  ends = λ u d. idle;
  floods = λ n. begun_node (map row_of t.links) (record { 0 = n });
  channels = λ u d. [];
  posted = [];
  failed = [];
  made = λ n. 0;
}

-- with an event more of the node
abbrev pub with_event : World → ℕ → World
with_event w n = record w { made = λ m. if m == n then w.made m + 1 else w.made m }

-- these packets were sent too
abbrev pub with_packets : List Content → List Packet → List Content
with_packets contents packets = contents ++ map Message packets

-- these flood messages were sent too
abbrev pub with_floods : List Content → List FloodMsg → List Content
with_floods contents floods = contents ++ map Flood floods

-- What a rule sends

-- these messages are sent, one after the other
abbrev pub sends_all : List Msg → HopEnd → HopEnd
sends_all [] e = e
sends_all (m ∷ ms) e = sends_all ms (end_sends m e)

-- each in a packet with the next number, where this was the last one
abbrev pub numbered_after : ℕ → List Msg → List Packet
numbered_after n [] = []
numbered_after n (m ∷ ms) = numbered (n + 1) m ∷ numbered_after (n + 1) ms

-- a rule's answer is carried out at the node n, and what it sends goes to its hops; all else stays
abbrev pub world_commit : World → ℕ → Answer → World
world_commit w n a = record w {
  nodes = λ m. if m == n then changed (w.nodes m) a else w.nodes m;
  ends = λ u d. if u == n then sends_all (sent_to d a.sent) (w.ends u d) else w.ends u d;
  channels = λ u d.
      if u == n
      then with_packets (w.channels u d) (numbered_after (w.ends u d).hop.sent (sent_to d a.sent))
      else w.channels u d;
}

-- A frame is delivered. The acknowledgement of a packet leaves first, then what the rule of its message sends.

-- what is at this number of a list that begins with number 1
abbrev pub numbered_at : List Content → ℕ → Option Content
numbered_at contents zero = None
numbered_at contents (suc k) = slice_get contents k

-- the frame of this number on the channel from u to d
abbrev pub frame_at : World → NodeId → NodeId → ℕ → Option Content
frame_at w u d k = numbered_at (w.channels u.0 d.0) k

-- what a packet from u is to d's hop
abbrev pub heard_at : World → NodeId → NodeId → Packet → Heard
heard_at w d u p = heard_as (w.ends d.0 u.0).hop p

-- d's hop to u takes a packet, and answers it
abbrev pub packet_taken : World → NodeId → NodeId → Packet → World
packet_taken w d u p = record w {
  ends = λ a b. if a == d.0 && b == u.0 then end_takes (Some p) (w.ends a b) else w.ends a b;
  channels = λ a b.
      if a == d.0 && b == u.0
      then with_packets (w.channels a b) (answers_to (heard_as (w.ends a b).hop p) p)
      else w.channels a b;
}

-- what d's hop to u hands up of a packet: its message, or nothing
abbrev pub handed_up : World → NodeId → NodeId → Packet → List Msg
handed_up w d u p = handed_up_of (heard_at w d u p) p

-- the node d handles what its hop to u handed up
abbrev pub handled : Network → World → NodeId → NodeId → List Msg → World
handled t w d u [] = w
handled t w d u (m ∷ ms) = world_commit w d.0 (on_message (local_node t d) (w.nodes d.0) u m)

-- The acknowledgement of a row leaves first, then the row to d's other neighbours, where it is new. The node learns it.
abbrev pub flooded : Network → World → NodeId → NodeId → FloodMsg → World
flooded t w d u m = record w {
  nodes = λ n. if n == d.0 then with_learnt (local_node t d) (w.nodes n) (learnt_of (w.floods d.0) m) else w.nodes n;
  floods = λ n. if n == d.0 then flood.flood_received (w.floods n) u m else w.floods n;
  channels = λ a b.
      if a == d.0
      then with_floods (w.channels a b) (sent_to_node b (sends_after (w.floods a) u m))
      else w.channels a b;
}

abbrev pub with_content : Network → World → NodeId → NodeId → Content → World
with_content t w d u (Message p) = handled t (packet_taken w d u p) d u (handed_up w d u p)
with_content t w d u (Flood m) = flooded t w d u m

abbrev pub delivered : Network → World → NodeId → NodeId → Option Content → World
delivered t w d u None = w
delivered t w d u (Some c) = with_content t w d u c

-- A tick: messages that are due go again, then go rows that are due, then what the calls send.

abbrev pub hops_ticked : World → ℕ → World
hops_ticked w n = record w {
  ends = λ a b. if a == n then end_ticks (w.ends a b) else w.ends a b;
  channels = λ a b. if a == n then with_packets (w.channels a b) (resent (w.ends a b).hop) else w.channels a b;
}

abbrev pub floods_ticked : World → ℕ → World
floods_ticked w n = record w {
  floods = λ m. if m == n then flood.ticked_flood (w.floods m) else w.floods m;
  channels = λ a b.
      if a == n then with_floods (w.channels a b) (sent_to_node b (sent_at_tick (w.floods a))) else w.channels a b;
}

abbrev pub world_ticked : Network → World → NodeId → World
world_ticked t w n = world_commit (floods_ticked (hops_ticked w n.0) n.0) n.0 (on_tick (local_node t n) (w.nodes n.0))
