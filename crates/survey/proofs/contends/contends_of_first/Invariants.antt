use Rattle.std.proofs.Common.{◌≡◌, take}
use Rattle.survey.specs.Meetings.{first_meets}
use Rattle.survey.proofs.contends.contends_of_first.Given as goal

abbrev pub invariant-loop-second : goal.invariant-loop-second
invariant-loop-second l = l.contends.items ≡ first_meets l.slots l.first (take l.second-index l.others)
