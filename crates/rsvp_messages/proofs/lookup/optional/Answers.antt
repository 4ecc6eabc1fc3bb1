use Rattle.rsvp_messages.proofs.Lookups.{one_with}
use Rattle.rsvp_messages.proofs.lookup.optional.Goals as goal

pub returns-in-Some-clause-found : goal.returns-in-Some-clause-found
returns-in-Some-clause-found c =
    one_with _ _ _ _ _ c.in_ok-at_most_one.ensures.found c.in-Some.is c.if-object-ctype.true
