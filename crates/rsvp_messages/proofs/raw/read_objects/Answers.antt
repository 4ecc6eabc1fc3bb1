use Rattle.std.proofs.Common.{arith}
use Rattle.wire_buf.proofs.Sequences.{ends, is_empty, not_empty, same_items, stops}
use Rattle.rsvp_messages.proofs.Scanning.{all_shorter, few_go_on, goes_on, objects_once}
use Rattle.rsvp_messages.proofs.raw.read_objects.Goals as goal

pub returns-in_default-clause-not_message : goal.returns-in_default-clause-not_message
returns-in_default-clause-not_message c = λ e.
    stops _ _ _ (not_empty _ _ c.is_empty.ensures c.objects-test.true) (λ o is. cc (c.in_default.ensures.only o is))
    c.objects.invariant.read

pub objects-preserved : goal.objects-preserved
objects-preserved c =
    record {
      read =
          goes_on _ _ _ _ _ _ c.in-Some.ensures.found.0 c.in-Some.ensures.found.1 c.in-Ok-push.ensures.items
          c.objects.invariant.read;
      few =
          few_go_on _ _ _ _ _ _ c.in-Some.ensures.found.0 c.in-Some.ensures.found.1 c.in-Ok-push.ensures.items
          c.objects.invariant.few;
    }

pub returns-clause-found : goal.returns-clause-found
returns-clause-found c = ends _ _ _ (is_empty _ _ c.is_empty.ensures c.objects-test.false) c.objects.invariant.read

pub returns-clause-only : goal.returns-clause-only
returns-clause-only c =
    let are = ends _ _ _ (is_empty _ _ c.is_empty.ensures c.objects-test.false) c.objects.invariant.read in
    λ os others. same_items objects_once _ _ _ are others

pub returns-clause-short : goal.returns-clause-short
returns-clause-short c =
    all_shorter _ _ (ends _ _ _ (is_empty _ _ c.is_empty.ensures c.objects-test.false) c.objects.invariant.read)

pub returns-clause-few : goal.returns-clause-few
returns-clause-few c = omega (arith, c.objects.invariant.few)
