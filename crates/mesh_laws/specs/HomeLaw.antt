-- Messages are between neighbours alone, and items stand on nodes' desks alone.
use Rattle.std.specs.{Prelude.{◌≡◌, ◌==◌, ◌&&◌, Bool, false, not, List, []}, List.list_any}
use Rattle.ason_base.specs.{declared.ids.NodeId.NodeId, Network.{IsTopology, Network, are_ends, is_node_id}}
use Rattle.mesh_rules.specs.{declared.events.MeshEvent.MeshEvent, Events.{IsRun, after}, Machine.{Mesh, start}}

-- these are two nodes of the network, and a link is between them
abbrev pub are_neighbours : Network → NodeId → NodeId → Bool
are_neighbours t u d =
    is_node_id t.nodes u && is_node_id t.nodes d && not (u.0 == d.0)
    && list_any (λ l. are_ends l.low l.high u d) t.links

-- no message is under way but between neighbours, and no item stands but on a node's desk
pub record StaysAtHome (t : Network) (s : Mesh) : Type 0 where
  pub mail : (u d : NodeId) → are_neighbours t u d ≡ false → s.mail u.0 d.0 ≡ []
  pub desks : (n : NodeId) → is_node_id t.nodes n ≡ false → s.desks n.0 ≡ []

-- over every topology, after every run
abbrev pub EveryRunStaysAtHome : Type 0
EveryRunStaysAtHome =
    (t : Network) (events : List MeshEvent) → IsTopology t → IsRun t start events →
    StaysAtHome t (after t start events)
