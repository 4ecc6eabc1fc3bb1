use Rattle.std.proofs.{Common.{rules, ◌≡◌}, lemmas.Option.none-some}
use Rattle.rsvp_messages.specs.Seen.{all_seen}
use Rattle.rsvp_messages.proofs.Paths.{only_path, passed, path_is}
use Rattle.rsvp_messages.proofs.path.read_path.Goals as goal

pub returns-in_default : goal.returns-in_default
returns-in_default c = record {
  found = search rules;
  only = search rules;
  not_message = λ e. only_path (all_seen c.args.objects.now) (λ m. ⊥)
      (λ l e k r s u p h. none-some _ (c.in_default.ensures.only
      (record { subject = record { lsp = l; egress = e }; link = k; upstream = u }) h.head));
}

pub returns-in_err-set : goal.returns-in_err-set
returns-in_err-set c = record {
  found = search rules;
  only = search rules;
  not_message = λ e. only_path (all_seen c.args.objects.now) (λ m. ⊥)
      (λ l n k r s u p h. c.in_err-set.ensures.not_message
      (passed c.from_residual-in_err-set.result c.in_err-set.field-0.0 _ c.from_residual-in_err-set.ensures.1 e)
      s h.has_set);
}

pub returns : goal.returns
returns c = record {
  found = search rules;
  only = only_path (all_seen c.args.objects.now) (λ m. _ ≡ m)
      (λ l e k r s u p h. path_is _ _ _ _ l e k r s u p
      (c.in-Some.ensures.only (record { subject = record { lsp = l; egress = e }; link = k; upstream = u }) h.head)
      (c.in_ok-route.ensures.only r h.has_route) (c.in_ok-set.ensures.only s h.has_set)
      (c.in_ok-role.ensures.only p h.has_role));
  not_message = search rules;
}
