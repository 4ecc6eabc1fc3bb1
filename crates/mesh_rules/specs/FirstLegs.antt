-- An LSP at the node where it begins: its leg, and the Path that asks for it (RFC 2205, section 3.1.3). p is the node; s
-- is what it keeps.
use Rattle.std.specs.Prelude.{◌==◌, ◌&&◌, nat_lt, nat_le, Bool, true, false, ℕ, List, [], ◌∷◌, length, Option, Some, None, if◌then◌else◌}
use Rattle.ason_base.specs.{Labels.{least, up_to}, declared.ids.Lsp.Lsp, declared.ids.NodeId.NodeId, declared.steps.Step.Step, declared.network.LinkSpec.LinkSpec, declared.network.TeRow.TeRow, declared.messages.PathRole.PathRole, declared.messages.Msg.TheVariants.Path, declared.calls.Phase.TheVariants.Asked, declared.tables.CallRec.CallRec, declared.tables.Leg.Leg, declared.tables.Out.Out, Network.other_end}
use Rattle.mesh_rules.specs.{declared.limits.TheConstants.{MOST_LEGS, MOST_LINKS_OF_ROUTE}, declared.changes.NextNumbers.NextNumbers, State.NodeState, Changes.{Answer, nothing, to_node}, KnownRows.known_rows, LocalNodes.{LocalNode, own_link, fibre_out}, Legs.{reverse, usable}, Paths.{is_none, recorded, role_of}}
use Rattle.mesh_rules.specs.declared.changes.CallChange.TheVariants as call
use Rattle.mesh_rules.specs.declared.changes.LegChange.TheVariants as leg

-- an LSP that is asked for: over which link it leaves, over which steps it goes on from there, for what, and of a
-- two-way LSP the label on which it comes back over that link
pub record NewLsp : Type 0 where
  pub lsp : Lsp
  pub egress : NodeId
  pub out : LinkSpec
  pub route : List Step
  pub role : PathRole
  pub back : Option ℕ

-- its leg here; a backup's records the risks of its primary
abbrev pub first_leg : LocalNode → List TeRow → NewLsp → Leg
first_leg p rows n = record {
  lsp = n.lsp;
  egress = n.egress;
  role = role_of n.role;
  prev = None;
  next = Some (other_end n.out p.id);
  in_fibre = None;
  out_fibre = Some (fibre_out n.out p.id);
  offered = [];
  sent = up_to n.out.labels;
  route = n.route;
  path_role = n.role;
  risks = recorded rows n.role;
  phase = Asked;
  in_label = None;
  out_label = None;
  back_in = n.back;
  back_out = None;
}

-- a two-way LSP comes back over its first link on the least label that is usable for it there (RFC 3473, section 3)
abbrev pub first_back : LocalNode → NodeState → Bool → PathRole → LinkSpec → Option ℕ
first_back p s false r out = None
first_back p s true r out =
    least (usable p s.legs (role_of r) (recorded (known_rows p s) r) (reverse (fibre_out out p.id)))

-- it is to be two-way, and there is no such label
abbrev pub lacks_first_back : LocalNode → NodeState → Bool → PathRole → LinkSpec → Bool
lacks_first_back p s both r out = both && is_none (first_back p s both r out)

-- a Path with every label of the first link, and for the way back the leg's back label in
abbrev pub first_path_out : LocalNode → NewLsp → Out
first_path_out p n =
    to_node (other_end n.out p.id) (Path n.lsp n.egress n.out.id n.route (up_to n.out.labels) n.back n.role)

-- the LSP is asked for: a leg and a Path; its call is put in place, and these numbers are given out next
abbrev pub asks_for : LocalNode → NodeState → NewLsp → CallRec → NextNumbers → Answer
asks_for p s n c next = record nothing {
  legs = leg.Put (first_leg p (known_rows p s) n) ∷ [];
  calls = call.Put c ∷ [];
  numbers = Some next;
  sent = first_path_out p n ∷ [];
}

abbrev pub is_full : NodeState → Bool
is_full s = nat_le MOST_LEGS (length s.legs)

-- a given route has 1 to 63 links, and its first step names this node and a link of it
abbrev pub first_link : LocalNode → List Step → Option LinkSpec
first_link p [] = None
first_link p (hop ∷ route) =
    if hop.node.0 == p.id.0 && nat_lt (length route) MOST_LINKS_OF_ROUTE then own_link p hop.link else None
