use Rattle.std.proofs.Common.{◌+◌, ◌<◌, ◌≤◌, ap, arith, length, rules}
use Rattle.rsvp_objects.proofs.{MarkedLabels.lowest_first, LaidLabels.{laying_begins, laying_ends, laying_goes_on, laying_room}}
use Rattle.rsvp_objects.proofs.label_set.lay_half.Goals as goal

pub labels-init : goal.labels-init
labels-init c = laying_begins c.args.bytes.now c.args.start c.args.first c.args.half c.requires.zeros

some : (c : goal.In-labels) → 0 < c.labels.left
some c = let test = c.labels-test.true in search rules

room : (c : goal.In-labels) → c.labels.at + 4 ≤ length c.args.bytes.now
room c = laying_room _ _ _ _ _ _ _ (some c) (search rules) c.requires.room c.labels.invariant

pub overflow_add-bytes-in-labels : goal.overflow_add-bytes-in-labels
overflow_add-bytes-in-labels c = let here = room c in search rules

pub bounds-bytes-at : goal.bounds-bytes-at
bounds-bytes-at c = omega (arith, room c, c.labels.auto.bytes)

pub overflow_add-at : goal.overflow_add-at
overflow_add-at c = let here = room c in search rules

pub labels-smaller : goal.labels-smaller
labels-smaller c = omega (arith, ap length (lowest_first c.args.first c.labels.left (some c) (search rules)))

pub labels-preserved : goal.labels-preserved
labels-preserved c =
    laying_goes_on _ _ _ _ _ _ _ (some c) (search rules) c.requires.small c.requires.room c.labels.invariant

pub returns-clause-end : goal.returns-clause-end
returns-clause-end c = (laying_ends _ _ _ _ _ _ _ c.labels-test.false c.labels.invariant).0

pub returns-clause-laid : goal.returns-clause-laid
returns-clause-laid c = (laying_ends _ _ _ _ _ _ _ c.labels-test.false c.labels.invariant).1
