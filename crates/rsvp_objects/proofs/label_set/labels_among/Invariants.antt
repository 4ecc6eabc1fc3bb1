use Rattle.std.proofs.Common.{length}
use Rattle.rsvp_objects.proofs.Labels.{ReadNumbers}
use Rattle.rsvp_objects.proofs.label_set.labels_among.Given as goal

abbrev pub invariant-labels : goal.invariant-labels
invariant-labels l = ReadNumbers l.labels l.cursor l.marks

abbrev pub decreases-labels : goal.decreases-labels
decreases-labels l = length l.cursor
