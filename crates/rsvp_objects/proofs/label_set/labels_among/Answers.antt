use Rattle.std.proofs.Common.{◌∙◌, arith}
use Rattle.rsvp_objects.proofs.Labels.{numbers_begin, numbers_go_on, numbers_end}
use Rattle.rsvp_objects.proofs.label_set.labels_among.Goals as goal

pub labels-init : goal.labels-init
labels-init c = rw c.new-cursor.ensures (numbers_begin _ _ c.none-marks.ensures)

pub labels-preserved : goal.labels-preserved
labels-preserved c =
    numbers_go_on _ _ _ _ _ _ c.in-Some.ensures.value.0 c.in-Some.ensures.value.1 c.in-Some.ensures.left
    c.mark.ensures c.labels.invariant

pub returns : goal.returns
returns c =
    c.set.ensures ∙ numbers_end _ _ _ (let none = c.in_default.ensures.value in omega arith) c.labels.invariant
