use Rattle.rsvp_messages.proofs.Lookups.{many}
use Rattle.rsvp_messages.proofs.object_table.at_most_one.Goals as goal

pub returns-then-is_some-clause-many : goal.returns-then-is_some-clause-many
returns-then-is_some-clause-many c =
    many c.args.class c.args.objects.now c.objects.object-index _ c.objects.found c.is_some.result c.objects-test.true
    c.if-object-class.false c.objects.invariant c.is_some.ensures c.if-is_some.true
