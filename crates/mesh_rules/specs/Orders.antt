-- Orders and desk items (ITU-T G.8080, call control). p is the node; s is what it keeps.
use Rattle.std.specs.{}
use Rattle.ason_base.specs.{declared.commands.Command.Command, declared.commands.Command.TheVariants.{Setup, Release, Protect, Retry, Revert, Fail, Repair}, declared.commands.DeskItem.DeskItem, declared.commands.DeskItem.TheVariants.{Order, Alarm, Clear}}
use Rattle.mesh_rules.specs.{State.NodeState, Changes.{Answer, nothing}, LocalNodes.LocalNode, Alarms.{on_alarm, on_clear}, Protects.on_protect, Retries.on_retry, Reverts.on_revert, Setups.on_setup, Releases.on_release}

abbrev pub on_order : LocalNode → NodeState → Command → Answer
on_order p s (Setup n from to protected both via backup) =
    on_setup p s
    (record { call = n; from = from; egress = to; protected = protected; both = both; via = via; backup = backup })
on_order p s (Release n from) = on_release p s n from
on_order p s (Protect n from) = on_protect p s n from
on_order p s (Retry n from) = on_retry p s n from
on_order p s (Revert n from) = on_revert p s n from
on_order p s (Fail g) = nothing
on_order p s (Repair g) = nothing

abbrev pub on_item : LocalNode → NodeState → DeskItem → Answer
on_item p s (Order c) = on_order p s c
on_item p s (Alarm f) = on_alarm p s f
on_item p s (Clear f) = on_clear p s f
