use Rattle.rsvp_objects.proofs.Again.{error_again}
use Rattle.rsvp_objects.proofs.error.errors_come_back.Goals as goal

pub returns-clause-if_id : goal.returns-clause-if_id
returns-clause-if_id c = error_again
