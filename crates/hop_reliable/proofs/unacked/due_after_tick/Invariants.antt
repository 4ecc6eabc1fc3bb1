use Rattle.std.proofs.Common.{◌≡◌, ◌++◌, map}
use Rattle.std.specs.VecDeque.Iter.{deque_iter_rest}
use Rattle.hop_reliable.specs.Hop.{again, older}
use Rattle.hop_reliable.proofs.unacked.due_after_tick.Given as goal

abbrev pub invariant-loop-w : goal.invariant-loop-w
invariant-loop-w l =
    l.due.items ++ again (map older (deque_iter_rest l.w-iterator)) ≡ again (map older l.unacked.items)
