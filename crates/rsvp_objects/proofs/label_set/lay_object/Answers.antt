use Rattle.std.proofs.Common.{arith}
use Rattle.rsvp_objects.proofs.LabelObjects.{among_few, object_laid}
use Rattle.rsvp_objects.proofs.label_set.lay_object.Goals as goal

pub overflow_cast-len : goal.overflow_cast-len
overflow_cast-len c = omega (arith, among_few c.args.x.now.labels, c.lay_labels.ensures.end, c.max-len.ensures)

pub returns-clause-few : goal.returns-clause-few
returns-clause-few c = omega (arith, among_few c.args.x.now.labels, c.lay_labels.ensures.end, c.max-len.ensures)

pub returns-clause-laid : goal.returns-clause-laid
returns-clause-laid c =
    object_laid _ c.lay_labels.new.bytes c.args.x.now _ c.lay_labels.result c.max-len.result c.action.ensures
    c.lay_labels.ensures.end c.max-len.ensures c.lay_labels.ensures.laid c.write_u16.ensures
