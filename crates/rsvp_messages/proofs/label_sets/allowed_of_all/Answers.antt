use Rattle.std.proofs.Common.{◌∙◌}
use Rattle.rsvp_messages.specs.Messages.{allows}
use Rattle.rsvp_messages.proofs.Sets.{below_first, next, whole}
use Rattle.rsvp_messages.proofs.label_sets.allowed_of_all.Goals as goal

pub labels-init : goal.labels-init
labels-init c = c.empty-set.ensures ∙ below_first (allows c.args.sets.now)

pub labels-preserved : goal.labels-preserved
labels-preserved c =
    next (allows c.args.sets.now) c.labels.n c.labels.set c.with_allowed-set.result c.labels.invariant
    c.with_allowed-set.ensures

pub returns : goal.returns
returns c = whole (allows c.args.sets.now) c.labels.n c.labels.set c.labels-test.false c.labels.invariant
