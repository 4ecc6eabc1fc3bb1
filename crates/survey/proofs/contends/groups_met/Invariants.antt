use Rattle.std.proofs.Common.{◌≡◌, take}
use Rattle.std.specs.Prelude.{filter}
use Rattle.survey.specs.Meetings.{is_met_at_all}
use Rattle.survey.proofs.contends.groups_met.Given as goal

abbrev pub invariant-loop-group : goal.invariant-loop-group
invariant-loop-group l = l.met.items ≡ filter (is_met_at_all l.slots) (take l.group-index l.groups)
