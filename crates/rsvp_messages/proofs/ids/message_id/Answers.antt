use Rattle.std.proofs.{Common.rules, lemmas.Option.none-some}
use Rattle.rsvp_objects.specs.Bodies.{IsMsgId}
use Rattle.rsvp_messages.specs.Seen.{all_seen}
use Rattle.rsvp_messages.proofs.Lookups.{no_optional, optional_at, optional_is}
use Rattle.rsvp_messages.proofs.ids.message_id.Goals as goal

pub returns-in_err-optional : goal.returns-in_err-optional
returns-in_err-optional c = record {
  found = search rules;
  only = λ id has. absurd (no_optional 23 1 IsMsgId (all_seen c.args.objects.now)
      c.in_err-optional.ensures.only id has);
}

pub returns-in_err-read_id-in-Some : goal.returns-in_err-read_id-in-Some
returns-in_err-read_id-in-Some c = record {
  found = search rules;
  only = λ id has. absurd (optional_is 23 1 IsMsgId (all_seen c.args.objects.now) c.in-Some.body.now (λ x. ⊥)
      (optional_at 23 1 (all_seen c.args.objects.now) _ _ c.in_ok-optional.ensures.found c.in-Some.is)
      (λ x m. none-some _ (c.in_err-read_id-in-Some.ensures.only x m)) id has);
}
