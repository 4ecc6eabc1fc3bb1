use Rattle.std.proofs.{Common.rules, lemmas.Option.none-some}
use Rattle.rsvp_messages.proofs.Paths.{head_is}
use Rattle.rsvp_messages.proofs.path.read_head.Goals as goal

pub returns-in_err-subject : goal.returns-in_err-subject
returns-in_err-subject c =
    record {
      found = search rules;
      only = λ x h. absurd (none-some _ (c.in_err-subject.ensures.only x.subject h.names));
    }

pub returns-in_err-link : goal.returns-in_err-link
returns-in_err-link c =
    record { found = search rules; only = λ x h. absurd (none-some _ (c.in_err-link.ensures.only x.link h.comes)) }

pub returns : goal.returns
returns c = record {
  found = search rules;
  only = λ x h.
      head_is _ _ _ x (c.in_ok-subject.ensures.only x.subject h.names) (c.in_ok-link.ensures.only x.link h.comes)
      (c.in_ok-upstream.ensures.only x.upstream h.has_upstream);
}
