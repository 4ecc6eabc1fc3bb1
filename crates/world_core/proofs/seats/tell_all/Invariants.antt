use Rattle.std.proofs.Common.{◌≡◌, ◌++◌, map, take, drop}
use Rattle.world_core.specs.Seats.{told_seat}
use Rattle.world_core.proofs.seats.tell_all.Given as goal

abbrev pub invariant-loop-seat : goal.invariant-loop-seat
invariant-loop-seat l =
    l.seats ≡ map (told_seat l.t l.before l.after) (take l.seat-index l.fn.seats) ++ drop l.seat-index l.fn.seats
