use Rattle.std.proofs.{Common.rules, lemmas.Option.none-some}
use Rattle.rsvp_messages.proofs.Subjects.{only_path_err}
use Rattle.rsvp_messages.proofs.errors.read_path_err.Goals as goal

pub returns-in_err-subject : goal.returns-in_err-subject
returns-in_err-subject c = record {
  found = search rules;
  only = only_path_err _ _ (λ l e x n h. absurd (none-some _
      (c.in_err-subject.ensures.only (record { lsp = l; egress = e }) n)));
}

pub returns-in_err-error : goal.returns-in_err-error
returns-in_err-error c = record {
  found = search rules;
  only = only_path_err _ _ (λ l e x n h. absurd (none-some _ (c.in_err-error.ensures.only x h)));
}
