use Rattle.std.proofs.Common.{rules}
use Rattle.rsvp_objects.proofs.protection.flags_of.Goals as goal

pub returns : goal.returns
returns c = search (rules)
