use Rattle.std.proofs.{Common.rules, lemmas.Option.none-some}
use Rattle.rsvp_messages.proofs.Subjects.{only_resv, resv_is}
use Rattle.rsvp_messages.proofs.resv.read_resv.Goals as goal

pub returns-in_err-subject : goal.returns-in_err-subject
returns-in_err-subject c = record {
  found = search rules;
  only = only_resv _ _ (λ l e k x n h g. absurd (none-some _
      (c.in_err-subject.ensures.only (record { lsp = l; egress = e }) n)));
}

pub returns-in_err-link : goal.returns-in_err-link
returns-in_err-link c = record {
  found = search rules;
  only = only_resv _ _ (λ l e k x n h g. absurd (none-some _ (c.in_err-link.ensures.only k h)));
}

pub returns-in_err-label : goal.returns-in_err-label
returns-in_err-label c = record {
  found = search rules;
  only = only_resv _ _ (λ l e k x n h g. absurd (none-some _ (c.in_err-label.ensures.only x g)));
}

pub returns : goal.returns
returns c = record {
  found = search rules;
  only = only_resv _ _ (λ l e k x n h g. resv_is _ _ _ l e k x
      (c.in_ok-subject.ensures.only (record { lsp = l; egress = e }) n) (c.in_ok-link.ensures.only k h)
      (c.in_ok-label.ensures.only x g));
}
