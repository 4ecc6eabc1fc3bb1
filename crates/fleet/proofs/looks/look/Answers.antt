use Rattle.std.proofs.Common.{arith, get_or, ap}
use Rattle.fleet.proofs.Meeting.{here-within, met-high, met-low, ready-high, ready-low}
use Rattle.fleet.proofs.looks.look.Goals as goal

pub look-requires : goal.look-requires
look-requires c =
    let split = c.split_at_mut-low in
    let ready = ready-low c.args.stations.now _ _ c.args.place c.args.link c.args.end _ _ c.requires
    c.if-place-end.true split.ensures.front split.ensures.back
    (ap (get_or split.result.0.now c.args.place) c.index-low-place.is)
    (ap (get_or split.result.1.now 0) c.index-high-0.is) in
    record { place = ready.place; back = ready.back; ends = ready.ends }

pub split_at_mut-low-requires-else-place-end : goal.split_at_mut-low-requires-else-place-end
split_at_mut-low-requires-else-place-end c =
    let h = here-within c.args.stations.now c.args.place c.args.link c.args.end c.requires in
    omega (arith, h)

pub look-requires-else-place-end : goal.look-requires-else-place-end
look-requires-else-place-end c =
    let split = c.split_at_mut-low-else-place-end in
    let ready = ready-high c.args.stations.now _ _ c.args.place c.args.link c.args.end _ _ c.requires
    c.if-place-end.false split.ensures.front split.ensures.back
    (ap (get_or split.result.0.now c.args.end.station) c.index-low-end.is)
    (ap (get_or split.result.1.now 0) c.index-high-0-else-place-end.is) in
    record { place = ready.place; back = ready.back; ends = ready.ends }

pub returns-then-place-end : goal.returns-then-place-end
returns-then-place-end c =
    let split = c.split_at_mut-low in
    met-low c.args.stations.now _ _ c.args.place c.args.link c.args.end _ _ c.requires c.if-place-end.true
    split.ensures.front split.ensures.back (ap (get_or split.result.0.now c.args.place) c.index-low-place.is)
    (ap (get_or split.result.1.now 0) c.index-high-0.is) _ _ c.look.ensures

pub returns-else-place-end : goal.returns-else-place-end
returns-else-place-end c =
    let split = c.split_at_mut-low-else-place-end in
    met-high c.args.stations.now _ _ c.args.place c.args.link c.args.end _ _ c.requires c.if-place-end.false
    split.ensures.front split.ensures.back (ap (get_or split.result.0.now c.args.end.station) c.index-low-end.is)
    (ap (get_or split.result.1.now 0) c.index-high-0-else-place-end.is) _ _ c.look-else-place-end.ensures
