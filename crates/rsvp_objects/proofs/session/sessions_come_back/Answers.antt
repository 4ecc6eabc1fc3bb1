use Rattle.rsvp_objects.proofs.Again.{session_again}
use Rattle.rsvp_objects.proofs.session.sessions_come_back.Goals as goal

pub returns : goal.returns
returns c = session_again
