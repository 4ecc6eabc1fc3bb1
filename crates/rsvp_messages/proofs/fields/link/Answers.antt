use Rattle.std.proofs.{Common.rules, lemmas.Option.none-some}
use Rattle.rsvp_messages.proofs.{Lookups.means_here, Subjects.link_is}
use Rattle.rsvp_messages.proofs.fields.link.Goals as goal

pub returns-in_err-hop : goal.returns-in_err-hop
returns-in_err-hop c = record {
  found = search rules;
  only = λ link has. let h = means_here _ _ _ _ _ c.in_ok-body.ensures.found has in
      absurd (none-some _ (c.in_err-hop.ensures.only (record { sender = h.0; link = link }) h.1));
}

pub returns : goal.returns
returns c = record {
  found = search rules;
  only = λ link has. let h = means_here _ _ _ _ _ c.in_ok-body.ensures.found has in
      link_is c.in_ok-hop.hop h.0 link (c.in_ok-hop.ensures.only (record { sender = h.0; link = link }) h.1);
}
