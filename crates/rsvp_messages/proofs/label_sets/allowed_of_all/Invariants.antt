use Rattle.std.proofs.Common.{◌≡◌}
use Rattle.rsvp_messages.specs.Messages.{allows}
use Rattle.rsvp_messages.proofs.Sets.{below}
use Rattle.rsvp_messages.proofs.label_sets.allowed_of_all.Given as goal

abbrev pub invariant-labels : goal.invariant-labels
invariant-labels l = l.set ≡ below (allows l.sets) l.n
