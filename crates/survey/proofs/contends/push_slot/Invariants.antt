use Rattle.std.proofs.Common.{◌≡◌, ◌++◌, take}
use Rattle.std.specs.Prelude.{filter, flat_map}
use Rattle.survey.specs.{Meetings.others_meet, Groups.is_hit}
use Rattle.survey.proofs.contends.push_slot.Given as goal

abbrev pub invariant-loop-one : goal.invariant-loop-one
invariant-loop-one l =
    l.contends.items
    ≡ l.fn.contends.items
    ++ flat_map (others_meet l.first.group l.second l.slot) (filter (is_hit l.first) (take l.one-index l.slot.takers))
