use Rattle.std.proofs.Common.{◌≡◌, ◌++◌, map, take, drop}
use Rattle.std.specs.VecDeque.{deque_capacity, deque_len}
use Rattle.hop_reliable.specs.Hop.{older}
use Rattle.hop_reliable.proofs.unacked.age_all.Given as goal

abbrev pub invariant-loop-i : goal.invariant-loop-i
invariant-loop-i l = record {
  aged : l.unacked.items ≡ map older (take l.i l.fn.unacked.items) ++ drop l.i l.fn.unacked.items;
  len : deque_len l.unacked ≡ deque_len l.fn.unacked;
  capacity : deque_capacity l.unacked ≡ deque_capacity l.fn.unacked;
}
