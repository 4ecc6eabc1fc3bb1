use Rattle.std.proofs.lemmas.Option.{none-some}
use Rattle.rsvp_objects.specs.LabelSets.{IsLabelSet}
use Rattle.rsvp_messages.proofs.Eaches.{breaks, takes}
use Rattle.rsvp_messages.proofs.label_sets.label_sets.Goals as goal

pub returns-then-object-ne-GENERALIZED-clause-not_message : goal.returns-then-object-ne-GENERALIZED-clause-not_message
returns-then-object-ne-GENERALIZED-clause-not_message c =
    λ e. breaks 36 1 IsLabelSet c.args.objects.now c.objects.object-index _ c.objects-test.true
    c.if-object-ne-LABEL_SET.false (λ x t m. c.if-object-ne-GENERALIZED.true t)

pub returns-in_default-clause-not_message : goal.returns-in_default-clause-not_message
returns-in_default-clause-not_message c =
    λ e. breaks 36 1 IsLabelSet c.args.objects.now c.objects.object-index _ c.objects-test.true
    c.if-object-ne-LABEL_SET.false (λ x t m. none-some x (c.in_default.ensures.only x m))

pub objects-preserved : goal.objects-preserved
objects-preserved c =
    takes 36 1 IsLabelSet c.args.objects.now c.objects.object-index _ _ _ _ c.objects-test.true
    c.if-object-ne-LABEL_SET.false c.if-object-ne-GENERALIZED.false c.in-Some.ensures.found c.in-Some.ensures.only
    c.in-Ok.ensures.items c.objects.invariant
