-- The tables of a node's links and legs.
use Rattle.std.specs.Prelude.{ℕ, ◌==◌, ◌++◌, Bool, false, List, [], ◌∷◌, find, filter, map, Option, Some, None, is_some, not, if◌then◌else◌}
use Rattle.ason_base.specs.{declared.ids.Fibre.Fibre, declared.ids.LinkId.LinkId, declared.ids.NodeId.NodeId, declared.network.LinkSpec.LinkSpec, declared.network.NodeSpec.NodeSpec, declared.network.TeRow.TeRow, declared.tables.Leg.Leg, InOrder.RisesBy, Network.{Network, find_node, row_of, touches}, Lsps.lsp_before}
use Rattle.mesh_rules.specs.{KnownRows.has_row, Legs.previous}

-- a node's own links, the links that it knows, the fibres that it knows to be down, and its legs in order of LSP
pub record LegTable : Type 0 where
  pub node : NodeSpec
  pub wait : ℕ
  pub own : List LinkSpec
  pub rows : List TeRow
  pub down : List Fibre
  pub legs : List Leg

-- Legs

abbrev pub AreLegsRising : List Leg → Type 0
AreLegsRising legs = RisesBy (λ g h. lsp_before g.lsp h.lsp) legs

-- its LSP begins here: it has no previous node
abbrev pub begins_here : Leg → Bool
begins_here g = not (is_some (previous g))

-- Links

-- the tables of a node of the network at the start
abbrev pub leg_table_of : Network → NodeId → NodeSpec → LegTable
leg_table_of t n node = record {
  node = node;
  wait = t.wait;
  own = filter (touches n) t.links;
  rows = map row_of (filter (touches n) t.links);
  down = [];
  legs = [];
}

-- a number that no node has is that of one that doesn't convert
abbrev pub node_or_none : NodeId → Option NodeSpec → NodeSpec
node_or_none n None = record { id = n; convert = false }
node_or_none n (Some node) = node

abbrev pub new_table : Network → NodeId → LegTable
new_table t n = leg_table_of t n (node_or_none n (find_node t n))

abbrev pub find_own : LinkId → List LinkSpec → Option LinkSpec
find_own k links = find (λ l. l.id.0 == k.0) links

-- the rows with this one, unless its link is known
abbrev pub learnt : TeRow → List TeRow → List TeRow
learnt r rows = if has_row rows r.link then rows else rows ++ r ∷ []
