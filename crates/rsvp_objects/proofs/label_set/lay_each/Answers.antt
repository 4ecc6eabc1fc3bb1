use Rattle.std.proofs.Common.{◌≡◌, ap, arith, length}
use Rattle.rsvp_objects.proofs.{LabelObjects.among_few, LaidLabels.laid_twice, MarkedLabels.{halves_of, halves-length}}
use Rattle.rsvp_objects.proofs.label_set.lay_each.Goals as goal

pub lay_half-middle-requires-clause-room : goal.lay_half-middle-requires-clause-room
lay_half-middle-requires-clause-room c =
    let few = among_few c.args.set.now in
    omega (arith, few, halves-length _ _ c.bits-all.ensures, ap length c.requires)

pub lay_half-requires-clause-room : goal.lay_half-requires-clause-room
lay_half-requires-clause-room c =
    let few = among_few c.args.set.now in
    let both = halves-length _ _ c.bits-all.ensures in
    let middle = c.lay_half-middle in
    omega (arith, few, both, middle.ensures.end, middle.auto.bytes, ap length c.requires)

pub returns-clause-end : goal.returns-clause-end
returns-clause-end c =
    omega (arith, halves-length _ _ c.bits-all.ensures, c.lay_half-middle.ensures.end, c.lay_half.ensures.end)

pub returns-clause-laid : goal.returns-clause-laid
returns-clause-laid c =
    let middle = c.lay_half-middle in
    let size : length middle.new.bytes ≡ 328 = omega (arith, middle.auto.bytes, ap length c.requires) in
    laid_twice _ _ _ _ _ _ _ _ c.requires middle.ensures.end size middle.ensures.laid c.lay_half.ensures.laid
    (halves_of _ _ c.bits-all.ensures)
