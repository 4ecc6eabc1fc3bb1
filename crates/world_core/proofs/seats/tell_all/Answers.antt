use Rattle.std.proofs.{Common.{sym, ap, ◌∙◌, set}, lemmas.List.Edits.map_over_more}
use Rattle.world_core.specs.Seats.{told_seat}
use Rattle.world_core.proofs.seats.tell_all.Goals as goal

pub loop-seat-preserved : goal.loop-seat-preserved
loop-seat-preserved c =
    let i = c.loop-seat.seat-index in
    let change = told_seat c.args.t.now c.args.before.now c.args.after.now in
    let more = map_over_more change c.args.seats.now c.loop-seat.seats i c.seat-item.result
    c.loop-seat-test.true c.loop-seat.invariant c.seat-item.is in
    ap (set c.loop-seat.seats i) (c.in_ok-tell.ensures ∙ ap change (sym c.seat-item.is)) ∙ more
