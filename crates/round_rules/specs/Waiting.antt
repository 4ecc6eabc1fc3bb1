-- What waits at the nodes of a network, and that nothing does.
use Rattle.std.specs.{Prelude.{ℕ, ◌==◌, ◌&&◌, Bool, length, sum_by}, List.list_all}
use Rattle.ason_base.specs.{declared.ids.NodeId.NodeId, Network.Network}
use Rattle.flood.specs.State.{pending_count}
use Rattle.mesh_rules.specs.LocalNodes.{local_node}
use Rattle.control_channels.specs.Adjacencies.{neighbours}
use Rattle.world_rules.specs.Worlds.{World}

-- What waits

abbrev pub items_waiting : Network → World → ℕ
items_waiting t w = sum_by (λ n. length (w.desks n.id.0)) t.nodes

-- the messages that the node has sent and its neighbours haven't acknowledged
abbrev pub unacked_at : Network → World → NodeId → ℕ
unacked_at t w n = sum_by (λ u. length (w.ends n.0 u).hop.unacked) (neighbours (local_node t n))

abbrev pub unacked_waiting : Network → World → ℕ
unacked_waiting t w = sum_by (λ n. unacked_at t w n.id) t.nodes

-- the rows that are due to the node's neighbours, each as often as there are neighbours that haven't acknowledged it
abbrev pub rows_due_at : World → NodeId → ℕ
rows_due_at w n = pending_count (w.floods n.0)

abbrev pub rows_waiting : Network → World → ℕ
rows_waiting t w = sum_by (λ n. rows_due_at w n.id) t.nodes

-- Quiet

-- the node's desk is empty, and no message and no row that it sends is unacknowledged
abbrev pub is_quiet_at : Network → World → NodeId → Bool
is_quiet_at t w n = length (w.desks n.0) == 0 && unacked_at t w n == 0 && rows_due_at w n == 0

abbrev pub is_world_quiet : Network → World → Bool
is_world_quiet t w = list_all (λ n. is_quiet_at t w n.id) t.nodes
