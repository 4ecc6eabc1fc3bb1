-- The nodes of a network flood the rows of their links, over channels that lose, repeat and reorder messages.
use Rattle.std.specs.Prelude.{ℕ, ◌==◌, nat_lt, List, [], ◌∷◌, ◌++◌, Option, Some, None, map, filter, fold, slice_get, if◌then◌else◌}
use Rattle.ason_base.specs.{declared.ids.NodeId.NodeId, declared.network.TeRow.TeRow, InOrder.in_order, Network.end_beside}
use Rattle.flood.specs.{declared.messages.FloodMsg.FloodMsg, State.{FloodState, declared_row, fresh_neighbour, is_end, flood_received, sends_after, sent_at_tick, ticked_flood}}

pub record FloodNetwork : Type 0 where
  pub nodes : ℕ → FloodState
  -- every flood message that was ever sent from the first node to the second, the oldest first
  pub channels : ℕ → ℕ → List FloodMsg

-- What happens

-- what of this is sent to the node d, in order
abbrev pub sent_to_node : ℕ → List (NodeId × FloodMsg) → List FloodMsg
sent_to_node d sends = map (λ s. s.1) (filter (λ s. s.0.0 == d) sends)

-- the node n becomes this, and sends this
abbrev pub with_node : FloodNetwork → ℕ → FloodState → List (NodeId × FloodMsg) → FloodNetwork
with_node w n s sends = record {
  nodes = λ m. if m == n then s else w.nodes m;
  channels = λ u d. if u == n then w.channels u d ++ sent_to_node d sends else w.channels u d;
}

-- A message that is lost is never taken, one that is repeated is taken again, and one that is overtaken is taken later.
pub data FloodEvent : Type 0 where
  Tick : (node : NodeId) → FloodEvent
  Take : (to : NodeId) (from : NodeId) (place : ℕ) → FloodEvent  -- what stands at this place of the channel, from 0

-- the node d takes a message from u, if there is one
abbrev pub floods_taken : FloodNetwork → NodeId → NodeId → Option FloodMsg → FloodNetwork
floods_taken w d u None = w
floods_taken w d u (Some m) = with_node w d.0 (flood_received (w.nodes d.0) u m) (sends_after (w.nodes d.0) u m)

abbrev pub floods_step : FloodNetwork → FloodEvent → FloodNetwork
floods_step w (Tick n) = with_node w n.0 (ticked_flood (w.nodes n.0)) (sent_at_tick (w.nodes n.0))
floods_step w (Take d u k) = floods_taken w d u (slice_get (w.channels u.0 d.0) k)

abbrev pub floods_after : FloodNetwork → List FloodEvent → FloodNetwork
floods_after w [] = w
floods_after w (e ∷ es) = floods_after (floods_step w e) es

-- The start

-- the rows of a node's own links
abbrev pub own_rows : List TeRow → NodeId → List TeRow
own_rows rows n = filter (is_end n) rows

-- the nodes at the other ends of its links
abbrev pub nodes_beside : List TeRow → NodeId → List NodeId
nodes_beside rows n = map (λ r. end_beside r.low r.high n) (own_rows rows n)

-- a node that knows nothing, with these neighbours
abbrev pub new_flood : NodeId → List NodeId → FloodState
new_flood me ids = record {
  me = me;
  rows = [];
  neighbours = map (λ n. fresh_neighbour (record { 0 = n })) (in_order nat_lt (map (λ id. id.0) ids));
}

-- it declares these rows, one after the other
abbrev pub declared_rows : FloodState → List TeRow → FloodState
declared_rows s rows = fold declared_row s rows

-- a node that declared its own rows
abbrev pub begun_node : List TeRow → NodeId → FloodState
begun_node rows n = declared_rows (new_flood n (nodes_beside rows n)) (own_rows rows n)

-- each node declared its own rows, and nothing was sent
abbrev pub begun : List TeRow → FloodNetwork
begun rows = record { nodes = λ n. begun_node rows (record { 0 = n }); channels = λ u d. [] }
