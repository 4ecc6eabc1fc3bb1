use Rattle.std.proofs.{Common.rules, lemmas.Option.none-some}
use Rattle.rsvp_objects.specs.Bodies.{IsMsgId}
use Rattle.rsvp_messages.proofs.Eaches.{breaks, takes}
use Rattle.rsvp_messages.proofs.ids.all_acks.Goals as goal

pub returns-then-object-ne-NUMBER : goal.returns-then-object-ne-NUMBER
returns-then-object-ne-NUMBER c = record {
  found = search rules;
  only = search rules;
  not_message = λ e. breaks 24 1 IsMsgId c.args.objects.now c.objects.object-index _ c.objects-test.true
      c.if-object-ne-MESSAGE_ID_ACK.false (λ x t m. c.if-object-ne-NUMBER.true t);
}

pub returns-in_default : goal.returns-in_default
returns-in_default c = record {
  found = search rules;
  only = search rules;
  not_message = λ e. breaks 24 1 IsMsgId c.args.objects.now c.objects.object-index _ c.objects-test.true
      c.if-object-ne-MESSAGE_ID_ACK.false (λ x t m. none-some x (c.in_default.ensures.only x m));
}

pub objects-preserved : goal.objects-preserved
objects-preserved c =
    takes 24 1 IsMsgId c.args.objects.now c.objects.object-index _ _ _ _ c.objects-test.true
    c.if-object-ne-MESSAGE_ID_ACK.false c.if-object-ne-NUMBER.false c.in-Some.ensures.found c.in-Some.ensures.only
    c.in-Ok.ensures.ok c.objects.invariant
