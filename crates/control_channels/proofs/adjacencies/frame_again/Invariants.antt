use Rattle.std.proofs.Common.{◌≡◌, ◌++◌, map}
use Rattle.std.specs.{List.AllByRecursion, VecDeque.Iter.deque_iter_rest}
use Rattle.ason_base.specs.Writable.{IsWritableMsg}
use Rattle.hop_reliable.specs.Hop.{again, older}
use Rattle.control_channels.specs.{Adjacencies.{again_to, sendings_to}, Frames.{AllSpelled, frames_to}}
use Rattle.control_channels.proofs.adjacencies.frame_again.Given as goal

-- what was framed before, with what goes again of the messages that are left, is all
abbrev pub invariant-loop-waiting : goal.invariant-loop-waiting
invariant-loop-waiting l =
    let left = deque_iter_rest l.waiting-iterator in
    let due = sendings_to l.adjacency.peer (again (map older left)) in
    record {
      frames : l.frames.items ++ frames_to l.me due ≡ l.initial.frames.items ++ frames_to l.me (again_to l.adjacency);
      spelled : AllSpelled l.me due → AllSpelled l.me (again_to l.adjacency);
      writable : AllByRecursion (λ w. IsWritableMsg w.msg) left;
    }
