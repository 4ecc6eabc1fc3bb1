-- What a node knows of its own links, and who its neighbours are.
use Rattle.std.specs.{Prelude.{◌<◌, ◌≤◌, ◌==◌, ◌&&◌, Bool, IsTrue}, List.{AllByRecursion, list_any}}
use Rattle.ason_base.specs.{declared.limits.TheConstants.MOST_LABELS, declared.ids.NodeId.NodeId, declared.network.LinkSpec.LinkSpec, Lsps.same_fibre, Network.{other_end, touches}}
use Rattle.mesh_rules.specs.{declared.neighbours.Neighbour.Neighbour, LocalNodes.{LocalNode, fibre_in, fibre_out}}

-- the node is one end of the link, whose low end has the lesser number, and which has 1 to 80 labels
pub record IsOwnLink (n : NodeId) (l : LinkSpec) : Type 0 where
  pub touches : IsTrue (touches n l)
  pub apart : l.low.0 < l.high.0
  pub labelled : 1 ≤ l.labels
  pub narrow : l.labels ≤ MOST_LABELS

-- all links that the node knows as its own are such links
abbrev pub LocalNodeFits : LocalNode → Type 0
LocalNodeFits p = AllByRecursion (IsOwnLink p.id) p.own

-- the node n is the other end of a link of p
abbrev pub is_neighbour : LocalNode → NodeId → Bool
is_neighbour p n = list_any (λ l. (other_end l p.id).0 == n.0) p.own

-- the neighbour is the other end of a link of p, over the fibre of it that comes in at p
abbrev pub is_upstream : LocalNode → Neighbour → Bool
is_upstream p h = list_any (λ l. (other_end l p.id).0 == h.node.0 && same_fibre (fibre_in l p.id) h.fibre) p.own

-- the neighbour is the other end of a link of p, over the fibre of it that goes out from p
abbrev pub is_downstream : LocalNode → Neighbour → Bool
is_downstream p h = list_any (λ l. (other_end l p.id).0 == h.node.0 && same_fibre (fibre_out l p.id) h.fibre) p.own
