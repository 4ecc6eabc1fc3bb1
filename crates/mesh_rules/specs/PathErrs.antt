-- A PathErr, with Path_State_Removed (RFC 3473, section 4.4) or without.
use Rattle.std.specs.Prelude.{Bool, [], ◌∷◌, Option, Some, None, if◌then◌else◌}
use Rattle.ason_base.specs.{declared.ids.Lsp.Lsp, declared.ids.NodeId.NodeId, declared.codes.ErrCode.ErrCode, declared.messages.Msg.Msg, declared.tables.Leg.Leg}
use Rattle.mesh_rules.specs.{declared.neighbours.Neighbour.Neighbour, State.NodeState, ActivationAnswers.contended, Changes.{Answer, nothing, removes, followed_by, to_node}, Legs.{find_leg, is_asked, is_closing, previous, following, is_node}, Calls.call_with, CallSteps.call_refused}

-- a PathErr: its LSP, the message, whether it removes the leg, and why it came
pub record PathFailure : Type 0 where
  pub lsp : Lsp
  pub msg : Msg
  pub removed : Bool
  pub code : ErrCode

-- at the ingress the call follows, elsewhere it is passed back unchanged
abbrev pub refused_here : NodeState → Leg → ErrCode → Answer
refused_here s g code = followed_by (removes g.lsp []) (call_refused code g (call_with g.lsp s.calls))

abbrev pub err_passed : NodeState → Leg → PathFailure → Option Neighbour → Answer
err_passed s g e None = refused_here s g e.code
err_passed s g e (Some h) = removes g.lsp (to_node h.node e.msg ∷ [])

-- an Asked leg goes and the PathErr is passed back; a torn leg goes, since the next node has let go
abbrev pub removed : NodeState → Leg → PathFailure → Answer
removed s g e =
    if is_asked g.phase then err_passed s g e (previous g)
    else (if is_closing g.phase then removes g.lsp [] else nothing)

abbrev pub path_err_with : NodeState → NodeId → PathFailure → Option Leg → Answer
path_err_with s u e None = nothing
path_err_with s u e (Some g) =
    if is_node (following g) u then (if e.removed then removed s g e else contended s g e.msg) else nothing

abbrev pub on_path_err : NodeState → NodeId → PathFailure → Answer
on_path_err s u e = path_err_with s u e (find_leg e.lsp s.legs)
