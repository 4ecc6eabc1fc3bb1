use Rattle.ason_base.proofs.MaskMembers.{members-zero}
use Rattle.rsvp_objects.proofs.label_set.Marks.none.Goals as goal

pub returns : goal.returns
returns c = members-zero
