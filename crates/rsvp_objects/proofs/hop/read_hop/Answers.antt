use Rattle.rsvp_objects.proofs.Links.{hop_read, no_hop}
use Rattle.rsvp_objects.proofs.hop.read_hop.Goals as goal

pub returns-in-Some : goal.returns-in-Some
returns-in-Some c = hop_read _ _ _ c.if-body-lt8.false c.read_u32.ensures c.in-Some.ensures

pub returns-in-None : goal.returns-in-None
returns-in-None c = no_hop _ c.in-None.ensures
