use Rattle.std.proofs.{Common.rules, lemmas.Option.none-some}
use Rattle.rsvp_messages.proofs.{Lookups.means_here, Paths.{ties, tie_is, no_tie}}
use Rattle.rsvp_messages.proofs.roles.tied.Goals as goal

pub returns-in_err-association : goal.returns-in_err-association
returns-in_err-association c = record {
  found = search rules;
  only = λ work has. let t = means_here _ _ _ _ _ c.in_ok-body.ensures.found has in
      absurd (none-some _ (c.in_err-association.ensures.only (record { kind = 1; id = work; source = t.0 }) t.1));
}

pub returns-then-association-eq-RECOVERY : goal.returns-then-association-eq-RECOVERY
returns-then-association-eq-RECOVERY c = record {
  found = record {
    body = c.in_ok-body.body.now;
    one = c.in_ok-body.ensures.found;
    means = ties _
        c.in_ok-association.association c.in_ok-association.ensures.found c.if-association-eq-RECOVERY.true;
  };
  only = λ work has. let t = means_here _ _ _ _ _ c.in_ok-body.ensures.found has in
      tie_is c.in_ok-association.association work t.0 (c.in_ok-association.ensures.only
      (record { kind = 1; id = work; source = t.0 }) t.1);
}

pub returns-else-association-eq-RECOVERY : goal.returns-else-association-eq-RECOVERY
returns-else-association-eq-RECOVERY c = record {
  found = search rules;
  only = λ work has. let t = means_here _ _ _ _ _ c.in_ok-body.ensures.found has in
      absurd (c.if-association-eq-RECOVERY.false (no_tie c.in_ok-association.association work t.0
      (c.in_ok-association.ensures.only (record { kind = 1; id = work; source = t.0 }) t.1)));
}
