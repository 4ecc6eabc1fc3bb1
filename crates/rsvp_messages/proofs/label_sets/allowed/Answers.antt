use Rattle.std.proofs.Common.{◌∙◌}
use Rattle.rsvp_messages.proofs.Sets.{alone_allows}
use Rattle.rsvp_messages.proofs.label_sets.allowed.Goals as goal

pub returns-in-len1 : goal.returns-in-len1
returns-in-len1 c =
    c.copy.ensures
    ∙ alone_allows c.args.sets.now c.set-item.result c.in-len1.len_at_least c.in-len1.len_below c.set-item.is
    c.if-set.true
    c.rises.ensures
