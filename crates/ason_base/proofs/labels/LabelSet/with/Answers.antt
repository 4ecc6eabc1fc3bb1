use Rattle.ason_base.proofs.MaskMembers.{members-with}
use Rattle.ason_base.proofs.labels.LabelSet.with.Goals as goal

pub returns : goal.returns
returns c = rw (c.number.ensures.same, ← c.self.view_is)
    (members-with c.self.inside.mask c.args.l (rw (← c.number.ensures.same) c.number.ensures.high))
