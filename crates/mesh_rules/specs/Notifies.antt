-- A Notify (RFC 3473, section 4.3): a node of an LSP tells the ingress that its fibre in went down, or came up. p is the
-- node; s is what it keeps.
use Rattle.std.specs.Prelude.{◌&&◌, Bool, not, [], ◌∷◌, Option, Some, None, if◌then◌else◌}
use Rattle.ason_base.specs.{declared.codes.ErrCode.ErrCode, declared.ids.LinkId.LinkId, declared.ids.Lsp.Lsp, declared.ids.NodeId.NodeId, declared.messages.Msg.Msg, declared.tables.Leg.Leg}
use Rattle.mesh_rules.specs.{declared.neighbours.Neighbour.Neighbour, State.NodeState, Changes.{Answer, nothing, sends, to_node}, Legs.{find_leg, following, is_closing, is_node, previous}, LocalNodes.LocalNode, Reports.{report_here, reported}}

-- a Notify: its LSP, the message, the node that made it, the link by which the fibre comes in there, and what it tells
pub record Notice : Type 0 where
  pub lsp : Lsp
  pub msg : Msg
  pub at : NodeId
  pub link : LinkId
  pub code : ErrCode

-- at the ingress the call follows, elsewhere it is passed back unchanged
abbrev pub notice_passed : LocalNode → NodeState → Notice → Leg → Bool → Option Neighbour → Answer
notice_passed p s m g down None = report_here p s g m.at m.link down
notice_passed p s m g down (Some h) = sends (to_node h.node m.msg ∷ [])

-- a Notify of another code changes nothing and isn't passed on
abbrev pub notice_told : LocalNode → NodeState → Notice → Leg → Option Bool → Answer
notice_told p s m g None = nothing
notice_told p s m g (Some down) = notice_passed p s m g down (previous g)

-- it is taken from the next node of a leg that isn't torn
abbrev pub notify_with : LocalNode → NodeState → NodeId → Notice → Option Leg → Answer
notify_with p s u m None = nothing
notify_with p s u m (Some g) =
    if not (is_closing g.phase) && is_node (following g) u then notice_told p s m g (reported m.code) else nothing

abbrev pub on_notify : LocalNode → NodeState → NodeId → Notice → Answer
on_notify p s u m = notify_with p s u m (find_leg m.lsp s.legs)
