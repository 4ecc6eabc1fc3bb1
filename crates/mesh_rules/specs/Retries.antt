-- The order to try again to turn a call that is stuck (ITU-T G.8080, call control). p is the node; s is what it keeps.
use Rattle.std.specs.Prelude.{◌==◌, ◌&&◌, not, Option, Some, None, if◌then◌else◌}
use Rattle.ason_base.specs.{declared.ids.NodeId.NodeId, declared.ids.CallNo.CallNo, declared.tables.CallRec.CallRec}
use Rattle.mesh_rules.specs.{State.NodeState, Changes.{Answer, nothing}, Calls.{find_call, is_stuck}, Legs.leg_of, LocalNodes.LocalNode, Turns.{has_any, turn}}

-- it turns where its working LSP is hit and its backup isn't
abbrev pub retries : NodeState → CallRec → Answer
retries s c =
    if is_stuck c.state && (has_any c.work_reports && not (has_any c.back_reports))
    then turn s.legs c (leg_of c.back s.legs)
    else nothing

abbrev pub retry_with : LocalNode → NodeState → NodeId → Option CallRec → Answer
retry_with p s from None = nothing
retry_with p s from (Some c) = if from.0 == p.id.0 then retries s c else nothing

abbrev pub on_retry : LocalNode → NodeState → CallNo → NodeId → Answer
on_retry p s n from = retry_with p s from (find_call n s.calls)
