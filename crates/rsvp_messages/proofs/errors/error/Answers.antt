use Rattle.std.proofs.Common.{rules}
use Rattle.rsvp_messages.proofs.Subjects.{error_is_plain, error_is_other}
use Rattle.rsvp_messages.proofs.errors.error.Goals as goal

pub returns-in-Some : goal.returns-in-Some
returns-in-Some c = record {
  found = search rules;
  only = error_is_plain _ _ _ c.in-Some.ensures.found c.read_error_ipv4.ensures.only;
}

pub returns-in-None : goal.returns-in-None
returns-in-None c = record {
  found = search rules;
  only = error_is_other _ _ c.in-None.ensures.only c.error_with_interface.ensures.only;
}
