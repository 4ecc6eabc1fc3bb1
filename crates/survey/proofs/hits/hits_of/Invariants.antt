use Rattle.std.proofs.Common.{◌≡◌, take}
use Rattle.std.specs.Prelude.{flat_map}
use Rattle.survey.specs.Groups.{hit_in}
use Rattle.survey.proofs.hits.hits_of.Given as goal

abbrev pub invariant-loop-group : goal.invariant-loop-group
invariant-loop-group l = l.hits.items ≡ flat_map (hit_in l.views) (take l.group-index l.groups)
