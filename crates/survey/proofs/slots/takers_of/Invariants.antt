use Rattle.std.proofs.Common.{◌≡◌, take}
use Rattle.std.specs.Prelude.{filter}
use Rattle.survey.specs.Views.{takes}
use Rattle.survey.proofs.slots.takers_of.Given as goal

abbrev pub invariant-loop-view : goal.invariant-loop-view
invariant-loop-view l = l.takers.items ≡ filter (takes l.node l.link l.label) (take l.view-index l.users)
