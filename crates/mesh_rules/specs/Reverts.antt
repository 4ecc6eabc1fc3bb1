-- The order to go back from the backup to the working LSP (ITU-T G.8080, call control). p is the node; s is what it keeps.
use Rattle.std.specs.Prelude.{◌==◌, ◌&&◌, not, Option, Some, None, if◌then◌else◌}
use Rattle.ason_base.specs.{declared.ids.NodeId.NodeId, declared.ids.CallNo.CallNo, declared.tables.CallRec.CallRec}
use Rattle.mesh_rules.specs.{State.NodeState, Changes.{Answer, nothing}, Calls.{find_call, is_turned}, Legs.leg_of, LocalNodes.LocalNode, Turns.{go_back, has_any}}

-- a turned call goes back where its working LSP isn't hit
abbrev pub reverts : NodeState → CallRec → Answer
reverts s c =
    if is_turned c.state && not (has_any c.work_reports) then go_back c (leg_of c.back s.legs) else nothing

abbrev pub revert_with : LocalNode → NodeState → NodeId → Option CallRec → Answer
revert_with p s from None = nothing
revert_with p s from (Some c) = if from.0 == p.id.0 then reverts s c else nothing

abbrev pub on_revert : LocalNode → NodeState → CallNo → NodeId → Answer
on_revert p s n from = revert_with p s from (find_call n s.calls)
