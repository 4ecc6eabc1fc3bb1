use Rattle.rsvp_messages.proofs.Lookups.{one_with}
use Rattle.rsvp_messages.proofs.lookup.one.Goals as goal

pub returns-in-Some-Some-clause-found : goal.returns-in-Some-Some-clause-found
returns-in-Some-Some-clause-found c =
    one_with _ _ _ _ _ c.in-Some-Some.ensures.found c.in-Some-Some.field-0-is c.if-object-ctype.true
