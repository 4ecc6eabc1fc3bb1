use Rattle.std.proofs.Common.{◌≡◌, take}
use Rattle.std.specs.Prelude.{flat_map}
use Rattle.survey.specs.Slots.{link_slots}
use Rattle.survey.proofs.slots.shared_slots.Given as goal

abbrev pub invariant-loop-link : goal.invariant-loop-link
invariant-loop-link l = l.slots.items ≡ flat_map (link_slots l.legs l.views) (take l.link-index l.links)
