use Rattle.std.proofs.Common.{rules}
use Rattle.rsvp_objects.proofs.label_set.read_label_set.Goals as goal

pub returns-in-3 : goal.returns-in-3
returns-in-3 c = search (rules)
