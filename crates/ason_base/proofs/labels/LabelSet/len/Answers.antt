use Rattle.std.proofs.lemmas.Nat.{ones-le}
use Rattle.ason_base.specs.declared.limits.TheConstants.{MOST_LABELS}
use Rattle.ason_base.proofs.MaskCounts.{labels-few, length-members}
use Rattle.ason_base.proofs.labels.LabelSet.len.Goals as goal

pub returns-clause-count : goal.returns-clause-count
returns-clause-count c = rw (← c.self.view_is) (length-members c.self.inside.mask)

pub returns-clause-few : goal.returns-clause-few
returns-clause-few c = ones-le MOST_LABELS _ (labels-few c.self.inside.mask)
