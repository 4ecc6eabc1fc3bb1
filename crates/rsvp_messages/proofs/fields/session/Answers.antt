use Rattle.std.proofs.Common.{rules}
use Rattle.rsvp_messages.proofs.Lookups.{means_here}
use Rattle.rsvp_messages.proofs.fields.session.Goals as goal

pub returns : goal.returns
returns c = record {
  found = search rules;
  only = λ s has. c.read_session.ensures.only s (means_here _ _ _ _ _ c.in_ok-body.ensures.found has);
}
