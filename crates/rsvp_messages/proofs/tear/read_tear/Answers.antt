use Rattle.std.proofs.{Common.rules, lemmas.Option.none-some}
use Rattle.rsvp_messages.proofs.Subjects.{only_tear, tear_is}
use Rattle.rsvp_messages.proofs.tear.read_tear.Goals as goal

pub returns-in_err-lsp : goal.returns-in_err-lsp
returns-in_err-lsp c = record {
  found = search rules;
  only = only_tear _ _ (λ l e k n h. absurd (none-some _
      (c.in_err-lsp.ensures.only (record { lsp = l; egress = e }) n)));
}

pub returns-in_err-link : goal.returns-in_err-link
returns-in_err-link c = record {
  found = search rules;
  only = only_tear _ _ (λ l e k n h. absurd (none-some _ (c.in_err-link.ensures.only k h)));
}

pub returns : goal.returns
returns c = record {
  found = search rules;
  only = only_tear _ _ (λ l e k n h. tear_is _ _ l e k (c.in_ok-lsp.ensures.only (record { lsp = l; egress = e }) n)
      (c.in_ok-link.ensures.only k h));
}
