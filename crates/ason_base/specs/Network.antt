-- The network's nodes and links, and which nodes a link joins.
use Rattle.std.specs.{Prelude.{◌≡◌, ℕ, ◌-◌, ◌<◌, ◌==◌, ◌&&◌, ◌||◌, nat_lt, nat_le, Bool, true, false, not, List, [], ◌∷◌, length, Option, Some, None, find, slice_get, IsTrue, if◌then◌else◌}, List.list_any}
use Rattle.ason_base.specs.{declared.limits.TheConstants.{MOST_LABELS, MOST_LINKS, MOST_METRIC, MOST_NODES, MOST_SRLGS}, declared.ids.NodeId.NodeId, declared.ids.LinkId.LinkId, declared.ids.Fibre.Fibre, declared.network.NodeSpec.NodeSpec, declared.network.LinkSpec.LinkSpec, declared.network.TeRow.TeRow, InOrder.in_order, declared.network.TopologyFault.TopologyFault, declared.network.TopologyFault.TheVariants.{Count, Node, Link, OutOfMemory}}

-- the ticks to restore, the nodes and the links
pub record Network : Type 0 where
  pub wait : ℕ
  pub nodes : List NodeSpec
  pub links : List LinkSpec

-- What makes a topology

abbrev pub is_count : List NodeSpec → List LinkSpec → Bool
is_count nodes links = nat_le 1 (length nodes) && (nat_le (length nodes) MOST_NODES && nat_le (length links) MOST_LINKS)

abbrev pub node_number : Option NodeSpec → ℕ
node_number None = 0
node_number (Some n) = n.id.0

abbrev pub link_number : Option LinkSpec → ℕ
link_number None = 0
link_number (Some l) = l.id.0

-- the node at this place has a number above that of the one before, the first above 0
abbrev pub is_node_at : List NodeSpec → ℕ → Bool
is_node_at nodes k = nat_lt (if k == 0 then 0 else node_number (slice_get nodes (k - 1)))
    (node_number (slice_get nodes k))

abbrev pub is_distinct : List ℕ → Bool
is_distinct [] = true
is_distinct (x ∷ xs) = not (list_any (λ y. y == x) xs) && is_distinct xs

abbrev pub is_node_id : List NodeSpec → NodeId → Bool
is_node_id nodes n = list_any (λ m. m.id.0 == n.0) nodes

abbrev pub is_link : List NodeSpec → LinkSpec → Bool
is_link nodes l =
    nat_lt l.low.0 l.high.0 && (is_node_id nodes l.low && is_node_id nodes l.high)
    && (nat_le 1 l.labels && nat_le l.labels MOST_LABELS) && (nat_le 1 l.metric && nat_le l.metric MOST_METRIC)
    && (nat_le (length l.srlgs) MOST_SRLGS && is_distinct l.srlgs)

abbrev pub is_link_here : List NodeSpec → Option LinkSpec → Bool
is_link_here nodes None = false
is_link_here nodes (Some l) = is_link nodes l

-- the link at this place has a number above that of the one before, the first above 0
abbrev pub is_after : List LinkSpec → ℕ → Bool
is_after links k = nat_lt (if k == 0 then 0 else link_number (slice_get links (k - 1)))
    (link_number (slice_get links k))

-- the link at this place may stand there
abbrev pub is_link_at : List NodeSpec → List LinkSpec → ℕ → Bool
is_link_at nodes links k = is_after links k && is_link_here nodes (slice_get links k)

abbrev pub AreNodes : List NodeSpec → ℕ → Type 0
AreNodes nodes n = (k : ℕ) → k < n → IsTrue (is_node_at nodes k)

abbrev pub AreLinks : List NodeSpec → List LinkSpec → ℕ → Type 0
AreLinks nodes links n = (k : ℕ) → k < n → IsTrue (is_link_at nodes links k)

pub record IsTopology (t : Network) : Type 0 where
  pub count : IsTrue (is_count t.nodes t.links)
  pub nodes : AreNodes t.nodes (length t.nodes)
  pub links : AreLinks t.nodes t.links (length t.links)

-- the first fault: the count, then the nodes in order, then the links in order
abbrev pub FaultOf : List NodeSpec → List LinkSpec → TopologyFault → Type 0
FaultOf nodes links Count = is_count nodes links ≡ false
FaultOf nodes links (Node i) = IsTrue (is_count nodes links) × AreNodes nodes i × (i < length nodes) ×
    (is_node_at nodes i ≡ false)
FaultOf nodes links (Link i) = IsTrue (is_count nodes links) × AreNodes nodes (length nodes) ×
    AreLinks nodes links i × (i < length links) × (is_link_at nodes links i ≡ false)
FaultOf nodes links OutOfMemory = Unit {0}

-- Look-ups

abbrev pub find_node : Network → NodeId → Option NodeSpec
find_node t n = find (λ m. m.id.0 == n.0) t.nodes

abbrev pub find_link : Network → LinkId → Option LinkSpec
find_link t k = find (λ l. l.id.0 == k.0) t.links

-- the two ends are these nodes, whichever of them is the low one
abbrev pub are_ends : NodeId → NodeId → NodeId → NodeId → Bool
are_ends low high a b = (low.0 == a.0 && high.0 == b.0) || (low.0 == b.0 && high.0 == a.0)

abbrev pub has_ends : Option LinkSpec → NodeId → NodeId → Bool
has_ends None a b = false
has_ends (Some l) a b = are_ends l.low l.high a b

-- the link, as routing knows it
abbrev pub row_of : LinkSpec → TeRow
row_of l = record { link = l.id; low = l.low; high = l.high; metric = l.metric; srlgs = in_order nat_lt l.srlgs }

-- the link joins these two nodes
abbrev pub joins : Network → LinkId → NodeId → NodeId → Bool
joins t k a b = has_ends (find_link t k) a b

-- a channel leads from a node of the topology to another, where a link joins them
abbrev pub is_channel : Network → NodeId → NodeId → Bool
is_channel t u d =
    is_node_id t.nodes u && is_node_id t.nodes d && not (u.0 == d.0)
    && list_any (λ l. are_ends l.low l.high u d) t.links

-- the node is an end of the link
abbrev pub touches : NodeId → LinkSpec → Bool
touches n l = l.low.0 == n.0 || l.high.0 == n.0

-- of two ends, the one that isn't the node
abbrev pub end_beside : NodeId → NodeId → NodeId → NodeId
end_beside low high n = if low.0 == n.0 then high else low

-- the other end of a link of n
abbrev pub other_end : LinkSpec → NodeId → NodeId
other_end l n = end_beside l.low l.high n

-- the end that a fibre leads to, forward from the low end to the high one
abbrev pub far_end : Option LinkSpec → Bool → Option NodeId
far_end None forward = None
far_end (Some l) forward = Some (if forward then l.high else l.low)

abbrev pub receiver_of : Network → Fibre → Option NodeId
receiver_of t f = far_end (find_link t f.link) f.forward

abbrev pub sender_of : Network → Fibre → Option NodeId
sender_of t f = far_end (find_link t f.link) (not f.forward)
