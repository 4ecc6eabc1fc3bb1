-- What a table shows of a node, and of the mesh.
use Rattle.std.specs.Prelude.{List, map, flat_map, Option, Some, None}
use Rattle.ason_base.specs.{declared.ids.NodeId.NodeId, declared.ids.LinkId.LinkId, declared.ids.Fibre.Fibre, declared.ids.Lsp.Lsp, declared.calls.CallRow.CallRow, declared.calls.LegRow.LegRow, declared.tables.CallRec.CallRec, declared.tables.Leg.Leg, Network.Network}
use Rattle.mesh_rules.specs.{Legs.find_leg, State.NodeState, Machine.Mesh}

-- Rows

abbrev pub if_stands : Lsp → Option Leg → Option Lsp
if_stands l None = None
if_stands l (Some g) = Some l

-- an LSP of a call, where its leg stands at the ingress
abbrev pub standing : Option Lsp → List Leg → Option Lsp
standing None legs = None
standing (Some l) legs = if_stands l (find_leg l legs)

abbrev pub call_row : NodeId → List Leg → CallRec → CallRow
call_row n legs c = record {
  call = c.call;
  ingress = n;
  egress = c.egress;
  state = c.state;
  work = standing c.work legs;
  back = standing c.back legs;
  cause = c.cause;
}

abbrev pub link_of : Option Fibre → Option LinkId
link_of None = None
link_of (Some f) = Some f.link

abbrev pub leg_row : NodeId → Leg → LegRow
leg_row n g = record {
  lsp = g.lsp;
  node = n;
  role = g.role;
  phase = g.phase;
  in_link = link_of g.in_fibre;
  in_label = g.in_label;
  out_link = link_of g.out_fibre;
  out_label = g.out_label;
  back_in = g.back_in;
  back_out = g.back_out;
}

abbrev pub call_rows : NodeId → NodeState → List CallRow
call_rows n s = map (call_row n s.legs) s.calls

abbrev pub leg_rows : NodeId → NodeState → List LegRow
leg_rows n s = map (leg_row n) s.legs

-- The table of the mesh

abbrev pub all_call_rows : Network → Mesh → List CallRow
all_call_rows t s = flat_map (λ n. call_rows n.id (s.nodes n.id.0)) t.nodes

abbrev pub all_leg_rows : Network → Mesh → List LegRow
all_leg_rows t s = flat_map (λ n. leg_rows n.id (s.nodes n.id.0)) t.nodes
