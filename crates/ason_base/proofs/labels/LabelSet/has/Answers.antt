use Rattle.std.proofs.{Common.sym, lemmas.Nat.Bits.shr_and_one}
use Rattle.ason_base.proofs.MaskMembers.{has-members}
use Rattle.ason_base.proofs.labels.LabelSet.has.Goals as goal

pub returns : goal.returns
returns c =
    rw (c.number.ensures.same, shr_and_one, ← c.self.view_is)
    (sym (has-members c.self.inside.mask c.args.l (rw (← c.number.ensures.same) c.number.ensures.low)
    (rw (← c.number.ensures.same) c.number.ensures.high)))
