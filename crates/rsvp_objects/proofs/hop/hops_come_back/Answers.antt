use Rattle.rsvp_objects.proofs.Again.{hop_again}
use Rattle.rsvp_objects.proofs.hop.hops_come_back.Goals as goal

pub returns : goal.returns
returns c = hop_again
