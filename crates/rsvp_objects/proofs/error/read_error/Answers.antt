use Rattle.rsvp_objects.proofs.Links.{error_read, no_error}
use Rattle.rsvp_objects.proofs.error.read_error.Goals as goal

pub returns-in-Some : goal.returns-in-Some
returns-in-Some c = error_read _ _ _ c.if-body-lt8.false c.spec_of.ensures c.in-Some.ensures

pub returns-in-None : goal.returns-in-None
returns-in-None c = no_error _ c.in-None.ensures
