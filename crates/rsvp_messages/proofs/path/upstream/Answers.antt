use Rattle.std.proofs.{Common.rules, lemmas.Option.none-some}
use Rattle.rsvp_objects.specs.Bodies.{IsLabel}
use Rattle.rsvp_messages.specs.Seen.{all_seen}
use Rattle.rsvp_messages.proofs.Lookups.{no_optional, optional_at, optional_is}
use Rattle.rsvp_messages.proofs.path.upstream.Goals as goal

pub returns-in_err-optional : goal.returns-in_err-optional
returns-in_err-optional c = record {
  found = search rules;
  only = λ id has. absurd (no_optional 35 2 IsLabel (all_seen c.args.objects.now)
      c.in_err-optional.ensures.only id has);
}

pub returns-in_err-read_label-in-Some : goal.returns-in_err-read_label-in-Some
returns-in_err-read_label-in-Some c = record {
  found = search rules;
  only = λ id has. absurd (optional_is 35 2 IsLabel (all_seen c.args.objects.now) c.in-Some.body.now (λ x. ⊥)
      (optional_at 35 2 (all_seen c.args.objects.now) _ _ c.in_ok-optional.ensures.found c.in-Some.is)
      (λ x m. none-some _ (c.in_err-read_label-in-Some.ensures.only x m)) id has);
}
