use Rattle.std.proofs.Common.{take}
use Rattle.rsvp_objects.specs.LabelSets.{IsLabelSet}
use Rattle.rsvp_messages.specs.{Objects.of_class, Seen.all_seen}
use Rattle.rsvp_messages.proofs.Eaches.{ReadEach}
use Rattle.rsvp_messages.proofs.label_sets.label_sets.Given as goal

abbrev pub invariant-objects : goal.invariant-objects
invariant-objects l = ReadEach 1 IsLabelSet (of_class 36 (all_seen (take l.object-index l.objects))) l.sets.items
