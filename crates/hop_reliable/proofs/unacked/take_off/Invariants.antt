use Rattle.std.proofs.Common.{◌≡◌, ◌≤◌, take}
use Rattle.std.specs.VecDeque.{deque_capacity, deque_len}
use Rattle.hop_reliable.specs.Hop.{still_unacked}
use Rattle.hop_reliable.proofs.unacked.take_off.Given as goal

abbrev pub invariant-loop-ack : goal.invariant-loop-ack
invariant-loop-ack l = (l.unacked.items ≡ still_unacked (take l.ack-index l.acks) l.fn.unacked.items) ×
    (deque_len l.unacked ≤ deque_len l.fn.unacked) × (deque_capacity l.unacked ≡ deque_capacity l.fn.unacked)
