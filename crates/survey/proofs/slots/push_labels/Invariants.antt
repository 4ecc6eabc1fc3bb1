use Rattle.std.proofs.Common.{◌≡◌, ◌++◌, take}
use Rattle.std.specs.Prelude.{flat_map}
use Rattle.survey.specs.Slots.{slot_at}
use Rattle.survey.proofs.slots.push_labels.Given as goal

abbrev pub invariant-loop-number : goal.invariant-loop-number
invariant-loop-number l =
    l.slots.items
    ≡ l.fn.slots.items ++ flat_map (slot_at l.link l.forward l.users) (take l.number-index l.numbers)
