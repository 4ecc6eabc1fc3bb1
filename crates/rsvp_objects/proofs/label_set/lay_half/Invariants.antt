use Rattle.std.proofs.Common.{length}
use Rattle.rsvp_objects.specs.LabelSets.{marked}
use Rattle.rsvp_objects.proofs.LaidLabels.{Laying}
use Rattle.rsvp_objects.proofs.label_set.lay_half.Given as goal

abbrev pub invariant-labels : goal.invariant-labels
invariant-labels l = Laying l.fn.bytes l.start l.first l.half l.bytes l.at l.left

abbrev pub decreases-labels : goal.decreases-labels
decreases-labels l = length (marked l.first l.left)
