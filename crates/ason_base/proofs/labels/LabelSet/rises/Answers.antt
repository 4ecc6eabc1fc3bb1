use Rattle.ason_base.proofs.MaskMembers.{members-rise}
use Rattle.ason_base.proofs.labels.LabelSet.rises.Goals as goal

pub returns : goal.returns
returns c = rw (← c.self.view_is) (members-rise c.self.inside.mask)
