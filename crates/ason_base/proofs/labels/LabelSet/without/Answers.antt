use Rattle.ason_base.proofs.MaskMembers.{members-without}
use Rattle.ason_base.proofs.labels.LabelSet.without.Goals as goal

pub returns : goal.returns
returns c = rw (c.number.ensures.same, ← c.self.view_is)
    (members-without c.self.inside.mask c.args.l (rw (← c.number.ensures.same) c.number.ensures.high))
