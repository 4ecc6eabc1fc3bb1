use Rattle.std.proofs.Common.{rules}
use Rattle.rsvp_objects.proofs.tlv.if_index.Goals as goal

pub link_of-requires : goal.link_of-requires
link_of-requires c = search (rules)

pub returns-in-Some : goal.returns-in-Some
returns-in-Some c = search (rules)
