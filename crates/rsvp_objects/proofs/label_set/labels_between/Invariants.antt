use Rattle.std.proofs.Common.{◌≡◌}
use Rattle.rsvp_objects.proofs.Labels.{between_below}
use Rattle.rsvp_objects.proofs.label_set.labels_between.Given as goal

abbrev pub invariant-labels : goal.invariant-labels
invariant-labels l = l.marks ≡ between_below l.low l.high l.n
