use Rattle.ason_base.proofs.MaskMembers.{members-and}
use Rattle.ason_base.proofs.labels.LabelSet.meet.Goals as goal

pub returns : goal.returns
returns c = rw (← c.self.view_is, ← c.o.view_is) (members-and c.self.inside.mask c.o.inside.mask)
