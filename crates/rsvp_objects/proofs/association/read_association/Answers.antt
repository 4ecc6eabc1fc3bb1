use Rattle.std.proofs.Common.{rules}
use Rattle.rsvp_objects.proofs.association.read_association.Goals as goal

pub returns : goal.returns
returns c = search (rules)
