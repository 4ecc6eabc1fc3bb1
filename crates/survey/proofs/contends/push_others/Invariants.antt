use Rattle.std.proofs.Common.{◌≡◌, ◌++◌, take}
use Rattle.std.specs.Prelude.{flat_map}
use Rattle.survey.specs.Meetings.{other_meets}
use Rattle.survey.proofs.contends.push_others.Given as goal

abbrev pub invariant-loop-two : goal.invariant-loop-two
invariant-loop-two l =
    l.contends.items
    ≡ l.fn.contends.items ++ flat_map (other_meets l.first l.second l.slot l.one) (take l.two-index l.slot.takers)
