use Rattle.std.proofs.{Common.{rules, ◌≡◌}, lemmas.Option.none-some}
use Rattle.rsvp_messages.specs.Seen.{all_seen}
use Rattle.rsvp_messages.proofs.Paths.{found_back, no_role, only_back, back_is, passed}
use Rattle.rsvp_messages.proofs.roles.role.Goals as goal

pub returns-in_default : goal.returns-in_default
returns-in_default c = record {
  found = search rules;
  only = search rules;
  not_message = λ e. only_back (all_seen c.args.objects.now) (λ r. ⊥) c.in-Some-Back.active
      (found_back (all_seen c.args.objects.now) c.in-Some-Back.field-0 c.in-Some-Back.active c.in-Some-Back.ensures.only
      c.in-Some-Back.field-0-is) (λ work primary tie route. none-some work (c.in_default.ensures.only work tie));
}

pub returns-in_err-primary : goal.returns-in_err-primary
returns-in_err-primary c = record {
  found = search rules;
  only = search rules;
  not_message = λ e. only_back (all_seen c.args.objects.now) (λ r. ⊥) c.in-Some-Back.active
      (found_back (all_seen c.args.objects.now) c.in-Some-Back.field-0 c.in-Some-Back.active c.in-Some-Back.ensures.only
      c.in-Some-Back.field-0-is) (λ work primary tie route. c.in_err-primary.ensures.not_message
      (passed c.from_residual.result c.in_err-primary.field-0.0 _ c.from_residual.ensures.1 e) primary route);
}

pub returns : goal.returns
returns c = record {
  found = search rules;
  only = only_back (all_seen c.args.objects.now) (λ r. _ ≡ r) c.in-Some-Back.active
      (found_back (all_seen c.args.objects.now) c.in-Some-Back.field-0 c.in-Some-Back.active c.in-Some-Back.ensures.only
      c.in-Some-Back.field-0-is) (λ work primary tie route. back_is c.in-Some-Back.active _ work _ primary
      (c.in-Some.ensures.only work tie) (c.in_ok-primary.ensures.only primary route));
  not_message = search rules;
}

pub returns-in-None : goal.returns-in-None
returns-in-None c = record {
  found = search rules;
  only = search rules;
  not_message = λ e. no_role (all_seen c.args.objects.now) (λ p has. none-some p (c.in-None.ensures.only p has));
}
