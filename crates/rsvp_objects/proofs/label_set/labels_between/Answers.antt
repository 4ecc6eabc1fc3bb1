use Rattle.std.proofs.Common.{◌∙◌, sym}
use Rattle.rsvp_objects.proofs.{Labels.{range_begins, range_takes, range_skips, range_ends}, label_set.labels_between.Goals.{then-is_inside, else-is_inside}}
use Rattle.rsvp_objects.proofs.label_set.labels_between.Goals as goal

pub labels-init : goal.labels-init
labels-init c = range_begins c.args.low c.args.high _ c.none-marks.ensures

pub labels-preserved : goal.labels-preserved
labels-preserved c =
    elim c.if-is_inside.branch [
      | then-is_inside w ↦ w.marks-is ∙ range_takes c.args.low c.args.high c.labels.n _ _ c.labels.invariant
          (sym c.is_inside.ensures ∙ w.if-is_inside.true) w.mark.ensures
      | else-is_inside w ↦ w.marks-is ∙ range_skips c.args.low c.args.high c.labels.n _ c.labels.invariant
          (sym c.is_inside.ensures ∙ w.if-is_inside.false)
    ]

pub returns : goal.returns
returns c = c.set.ensures ∙ range_ends c.args.low c.args.high c.labels.n _ c.labels-test.false c.labels.invariant
