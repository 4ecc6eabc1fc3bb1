use Rattle.std.proofs.Common.{◌≡◌, ◌++◌, take}
use Rattle.std.specs.Prelude.{flat_map}
use Rattle.survey.specs.Meetings.{slot_meet}
use Rattle.survey.proofs.contends.push_groups.Given as goal

abbrev pub invariant-loop-slot : goal.invariant-loop-slot
invariant-loop-slot l =
    l.contends.items
    ≡ l.fn.contends.items ++ flat_map (slot_meet l.first l.second) (take l.slot-index l.slots)
