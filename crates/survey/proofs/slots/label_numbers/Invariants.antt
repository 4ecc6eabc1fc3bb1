use Rattle.std.proofs.Common.{◌≡◌, take}
use Rattle.std.specs.{Prelude.flat_map, List.AllByRecursion}
use Rattle.survey.specs.Slots.{IsLabelInRange, fibre_labels}
use Rattle.survey.proofs.slots.label_numbers.Given as goal

abbrev pub invariant-loop-row : goal.invariant-loop-row
invariant-loop-row l = record {
  numbers : l.numbers.items ≡ flat_map (fibre_labels l.node l.link) (take l.row-index l.legs);
  labels : AllByRecursion IsLabelInRange l.numbers.items;
}
