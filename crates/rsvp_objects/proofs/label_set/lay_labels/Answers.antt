use Rattle.std.proofs.Common.{◌∙◌, arith}
use Rattle.ason_base.specs.Labels.{numbers_from}
use Rattle.rsvp_objects.proofs.AllLabels.{all_laid}
use Rattle.rsvp_objects.proofs.label_set.lay_labels.Goals as goal

pub returns-clause-laid : goal.returns-clause-laid
unfolding numbers_from
returns-clause-laid c =
    c.copy_from_slice.ensures.after
    ∙ all_laid c.args.set.now c.rises.ensures (omega (arith, c.len.ensures.count, c.len.ensures.few))
