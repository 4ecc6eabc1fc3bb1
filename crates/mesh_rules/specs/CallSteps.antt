-- What becomes of a call after a Resv or a PathErr at its ingress (ITU-T G.8080, call control). p is the node; s is what
-- it keeps; g is the leg, which begins here, as the message leaves it.
use Rattle.std.specs.Prelude.{Option, Some, None, if◌then◌else◌}
use Rattle.ason_base.specs.{Codes.busy_code, declared.codes.ErrCode.ErrCode, declared.calls.Cause.TheVariants.Code, declared.tables.CallRec.CallRec, declared.tables.Leg.Leg}
use Rattle.mesh_rules.specs.{State.NodeState, Changes.{Answer, nothing}, Calls.{bare, blocked, guarded, is_asking, is_pairing, is_turning, stuck, turned}, Legs.is_work, LocalNodes.LocalNode, Pairs.{leaves_bare, pair}, Turns.{call_put, decide}}

-- A Resv

-- the working LSP of a call that was asked for stands: a protected call gets a backup
abbrev pub work_connected : LocalNode → NodeState → Leg → CallRec → Answer
work_connected p s g c =
    if is_asking c.state then (if c.protected then pair p s c g else call_put (bare c)) else nothing

-- its backup is reserved: the call is guarded, and may turn at once
abbrev pub backup_reserved : NodeState → Leg → CallRec → Answer
backup_reserved s b c = if is_pairing c.state then decide s.legs (guarded c) (Some b) else nothing

-- the call of an LSP that has its labels
abbrev pub call_answered : LocalNode → NodeState → Leg → Option CallRec → Answer
call_answered p s g None = nothing
call_answered p s g (Some c) = if is_work g.role then work_connected p s g c else backup_reserved s g c

-- A PathErr

abbrev pub work_refused : ErrCode → CallRec → Answer
work_refused code c = if is_asking c.state then call_put (blocked c (Code code)) else nothing

abbrev pub backup_refused : ErrCode → CallRec → Answer
backup_refused code c = if is_pairing c.state then leaves_bare c (Code code) else nothing

-- the call of an LSP that is refused
abbrev pub call_refused : ErrCode → Leg → Option CallRec → Answer
call_refused code g None = nothing
call_refused code g (Some c) = if is_work g.role then work_refused code c else backup_refused code c

-- An activation

-- the backup is activated from end to end
abbrev pub call_turned : NodeState → Leg → Option CallRec → Answer
call_turned s b None = nothing
call_turned s b (Some c) = if is_turning c.state then decide s.legs (turned c) (Some b) else nothing

-- the activation is refused: a label of the backup is in use
abbrev pub call_contended : NodeState → Leg → Option CallRec → Answer
call_contended s b None = nothing
call_contended s b (Some c) =
    if is_turning c.state then decide s.legs (stuck c (Code busy_code)) (Some b) else nothing
