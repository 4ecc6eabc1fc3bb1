-- What a node knows of itself.
use Rattle.std.specs.Prelude.{ℕ, ◌==◌, ◌||◌, ◌&&◌, Bool, true, false, List, find, filter, Option, Some, None}
use Rattle.ason_base.specs.{declared.ids.NodeId.NodeId, declared.ids.LinkId.LinkId, declared.ids.Fibre.Fibre, declared.network.NodeSpec.NodeSpec, declared.network.LinkSpec.LinkSpec, Network.{Network, find_node, touches}}

-- a node's number, whether it converts, after how many ticks the network restores a call (0: never by itself), and the
-- node's own links, in order of number
pub record LocalNode : Type 0 where
  pub id : NodeId
  pub convert : Bool
  pub wait : ℕ
  pub own : List LinkSpec

abbrev pub converts : Option NodeSpec → Bool
converts None = false
converts (Some n) = n.convert

abbrev pub local_node : Network → NodeId → LocalNode
local_node t n = record {
  id = n;
  convert = converts (find_node t n);
  wait = t.wait;
  own = filter (touches n) t.links;
}

abbrev pub own_link : LocalNode → LinkId → Option LinkSpec
own_link p k = find (λ l. l.id.0 == k.0) p.own

abbrev pub is_link_there : Option LinkSpec → Bool
is_link_there None = false
is_link_there (Some l) = true

abbrev pub labels_of : Option LinkSpec → ℕ
labels_of None = 0
labels_of (Some l) = l.labels

-- the link leads from u to n
abbrev pub leads : Option LinkSpec → NodeId → NodeId → Bool
leads None u n = false
leads (Some l) u n = (l.low.0 == u.0 && l.high.0 == n.0) || (l.low.0 == n.0 && l.high.0 == u.0)

-- the fibre of a link that comes in at n, and the one that goes out
abbrev pub fibre_in : LinkSpec → NodeId → Fibre
fibre_in l n = record { link = l.id; forward = l.high.0 == n.0 }

abbrev pub fibre_out : LinkSpec → NodeId → Fibre
fibre_out l n = record { link = l.id; forward = l.low.0 == n.0 }
