use Rattle.std.proofs.Common.{rules}
use Rattle.rsvp_objects.proofs.tlv.link_of.Goals as goal

pub returns : goal.returns
returns c = search (rules)
