use Rattle.rsvp_objects.proofs.LabelObjects.{label_set_again}
use Rattle.rsvp_objects.proofs.label_set.label_sets_come_back.Goals as goal

pub returns : goal.returns
returns c = label_set_again
