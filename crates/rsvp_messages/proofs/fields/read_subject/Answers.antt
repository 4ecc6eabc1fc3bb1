use Rattle.std.proofs.{Common.rules, lemmas.Option.none-some}
use Rattle.rsvp_messages.proofs.fields.read_subject.Goals as goal

pub returns-in_err-session : goal.returns-in_err-session
returns-in_err-session c =
    record {
      found = search rules;
      only = λ x n. absurd
          (none-some _ (c.in_err-session.ensures.only n.session n.has_session));
    }

pub returns-in_err-sender : goal.returns-in_err-sender
returns-in_err-sender c =
    record {
      found = search rules;
      only = λ x n. absurd (none-some _ (c.in_err-sender.ensures.only n.sender n.has_sender));
    }
