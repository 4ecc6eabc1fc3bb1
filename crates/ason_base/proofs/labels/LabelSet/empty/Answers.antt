use Rattle.ason_base.proofs.MaskMembers.{members-zero}
use Rattle.ason_base.proofs.labels.LabelSet.empty.Goals as goal

pub returns : goal.returns
returns c = members-zero
