use Rattle.std.proofs.{Common.rules, lemmas.Option.none-some}
use Rattle.rsvp_messages.proofs.Subjects.{no_link, notify_is, only_notify}
use Rattle.rsvp_messages.proofs.errors.read_notify.Goals as goal

pub returns-in_err-subject : goal.returns-in_err-subject
returns-in_err-subject c = record {
  found = search rules;
  only = only_notify _ _ (λ l e x k n h g. absurd (none-some _
      (c.in_err-subject.ensures.only (record { lsp = l; egress = e }) n)));
}

pub returns-in_err-error : goal.returns-in_err-error
returns-in_err-error c = record {
  found = search rules;
  only = only_notify _ _ (λ l e x k n h g. absurd (none-some _ (c.in_err-error.ensures.only x h)));
}

pub returns-in_err-link : goal.returns-in_err-link
returns-in_err-link c = record {
  found = search rules;
  only = only_notify _ _ (λ l e x k n h g. absurd (no_link _ x k (c.in_ok-error.ensures.only x h) g c.in_err-link.was));
}

pub returns : goal.returns
returns c = record {
  found = search rules;
  only = only_notify _ _ (λ l e x k n h g. notify_is _ _ _ l e x k
      (c.in_ok-subject.ensures.only (record { lsp = l; egress = e }) n) (c.in_ok-error.ensures.only x h)
      c.in_ok-link.was g);
}
