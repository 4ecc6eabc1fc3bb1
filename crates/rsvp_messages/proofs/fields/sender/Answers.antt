use Rattle.std.proofs.Common.{rules}
use Rattle.rsvp_messages.proofs.Lookups.{means_here}
use Rattle.rsvp_messages.proofs.fields.sender.Goals as goal

pub returns-then-class-eq-FILTER_SPEC : goal.returns-then-class-eq-FILTER_SPEC
returns-then-class-eq-FILTER_SPEC c = record {
  found = search rules;
  only = λ s has. c.read_filter.ensures.only s (means_here _ _ _ _ _ c.in_ok-body.ensures.found has);
}

pub returns-else-class-eq-FILTER_SPEC : goal.returns-else-class-eq-FILTER_SPEC
returns-else-class-eq-FILTER_SPEC c = record {
  found = search rules;
  only = λ s has. c.read_sender.ensures.only s (means_here _ _ _ _ _ c.in_ok-body.ensures.found has);
}
