use Rattle.std.proofs.{Common.rules, lemmas.Option.none-some}
use Rattle.rsvp_objects.specs.LabelSets.{IsLabelSet}
use Rattle.rsvp_messages.proofs.Eaches.{alone_breaks}
use Rattle.rsvp_messages.proofs.label_sets.label_set.Goals as goal

pub returns-in_default-read_label_set : goal.returns-in_default-read_label_set
returns-in_default-read_label_set c =
    let none = alone_breaks 1 IsLabelSet _ _ c.in-Some.ensures.found
    (λ x m. none-some x (c.in_default-read_label_set.ensures.only x m)) in
    record {
      found = search rules;
      only = λ set has. absurd (none has.0 has.1);
      not_message = λ e set has. none has.0 has.1;
    }
