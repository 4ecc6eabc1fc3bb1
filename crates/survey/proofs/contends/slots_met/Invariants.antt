use Rattle.std.proofs.Common.{◌≡◌, take}
use Rattle.std.specs.Prelude.{filter}
use Rattle.survey.specs.Meetings.{is_met}
use Rattle.survey.proofs.contends.slots_met.Given as goal

abbrev pub invariant-loop-slot : goal.invariant-loop-slot
invariant-loop-slot l = l.met.items ≡ filter (is_met l.group) (take l.slot-index l.slots)
