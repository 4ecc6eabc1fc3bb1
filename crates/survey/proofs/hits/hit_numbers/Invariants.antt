use Rattle.std.proofs.Common.{◌≡◌, take}
use Rattle.survey.specs.Groups.{hit_numbers}
use Rattle.survey.proofs.hits.hit_numbers.Given as goal

abbrev pub invariant-loop-view : goal.invariant-loop-view
invariant-loop-view l = l.numbers.items ≡ hit_numbers l.group l.guarded (take l.view-index l.views)
