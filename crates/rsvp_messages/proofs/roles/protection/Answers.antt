use Rattle.std.proofs.Common.{rules}
use Rattle.rsvp_messages.specs.Seen.{all_seen}
use Rattle.rsvp_messages.proofs.{Lookups.optional_at, Paths.{has_protection, no_protection, protection_here}}
use Rattle.rsvp_messages.proofs.roles.protection.Goals as goal

pub returns-in_err-optional : goal.returns-in_err-optional
returns-in_err-optional c = record {
  found = search rules;
  only = λ p has. absurd (no_protection (all_seen c.args.objects.now) c.in_err-optional.ensures.only p has);
}

pub returns-in-Some : goal.returns-in-Some
returns-in-Some c = record {
  found = has_protection (all_seen c.args.objects.now) c.in-Some.body.now
      (optional_at 37 2 (all_seen c.args.objects.now) _ _ c.in_ok-optional.ensures.found c.in-Some.is)
      _ c.read_protection.ensures.found;
  only = λ p has. c.read_protection.ensures.only p (protection_here (all_seen c.args.objects.now) c.in-Some.body.now
      (optional_at 37 2 (all_seen c.args.objects.now) _ _ c.in_ok-optional.ensures.found c.in-Some.is) p has);
}
