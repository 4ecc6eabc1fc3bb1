use Rattle.std.proofs.Common.{rules}
use Rattle.rsvp_messages.proofs.Lookups.{means_here}
use Rattle.rsvp_messages.proofs.errors.error_with_interface.Goals as goal

pub returns : goal.returns
returns c = record {
  found = search rules;
  only = λ e has. c.read_error.ensures.only e (means_here _ _ _ _ _ c.in_ok-body.ensures.found has);
}
