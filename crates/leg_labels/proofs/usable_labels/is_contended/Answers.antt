use Rattle.std.proofs.Common.{◌∙◌}
use Rattle.leg_table.proofs.LegOrder.{legs-to}
use Rattle.leg_labels.proofs.Contention.{lit-contended}
use Rattle.leg_labels.proofs.usable_labels.is_contended.Goals as goal

pub returns : goal.returns
returns c =
    let legs = c.args.tables.now.legs in
    c.is_lit_over.ensures
    ∙ lit-contended legs c.args.owner.now c.requires.claims.marks (legs-to legs c.rises.ensures.rising) c.args.leg.now
