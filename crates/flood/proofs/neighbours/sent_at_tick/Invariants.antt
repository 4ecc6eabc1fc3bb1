use Rattle.std.proofs.Common.{◌≡◌, take}
use Rattle.std.specs.List.{flat_map}
use Rattle.flood.specs.State.{rows_sent_to}
use Rattle.flood.proofs.neighbours.sent_at_tick.Given as goal

abbrev pub invariant-loop-n : goal.invariant-loop-n
invariant-loop-n l = l.sends ≡ flat_map rows_sent_to (take l.n-index l.neighbours)
