-- The order to protect a call that stands without a backup (ITU-T G.8080, call control). p is the node; s is what it
-- keeps.
use Rattle.std.specs.Prelude.{◌==◌, ◌&&◌, Option, Some, None, if◌then◌else◌}
use Rattle.ason_base.specs.{declared.ids.NodeId.NodeId, declared.ids.CallNo.CallNo, declared.tables.CallRec.CallRec, declared.tables.Leg.Leg}
use Rattle.mesh_rules.specs.{State.NodeState, Changes.{Answer, nothing}, Calls.{find_call, is_bare}, Legs.leg_of, LocalNodes.LocalNode, Pairs.pair}

-- a backup is asked for beside its working LSP
abbrev pub protects : LocalNode → NodeState → CallRec → Option Leg → Answer
protects p s c None = nothing
protects p s c (Some w) = pair p s c w

-- a call in another state stays as it is
abbrev pub protect_with : LocalNode → NodeState → NodeId → Option CallRec → Answer
protect_with p s from None = nothing
protect_with p s from (Some c) =
    if from.0 == p.id.0 && is_bare c.state then protects p s c (leg_of c.work s.legs) else nothing

abbrev pub on_protect : LocalNode → NodeState → CallNo → NodeId → Answer
on_protect p s n from = protect_with p s from (find_call n s.calls)
