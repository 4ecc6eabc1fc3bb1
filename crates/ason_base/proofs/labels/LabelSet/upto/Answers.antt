use Rattle.ason_base.proofs.MaskMembers.{two_or_more, members-up_to}
use Rattle.ason_base.proofs.labels.LabelSet.upto.Goals as goal

pub overflow_sub-result : goal.overflow_sub-result
overflow_sub-result c = two_or_more c.args.n c.requires

pub returns : goal.returns
returns c = members-up_to c.args.n c.requires
