use Rattle.std.proofs.Common.{◌≡◌, ◌+◌, length}
use Rattle.std.specs.{List.AllZip, Vec.Iter.drain_items}
use Rattle.round_rules.specs.Moves.{IsSentOver}
use Rattle.station.proofs.links.send_frames.Given as goal

abbrev pub invariant-loop-frame : goal.invariant-loop-frame
invariant-loop-frame l = record {
  sent : AllZip (IsSentOver l.stamp l.yielded) l.initial.links.items l.links.items;
  many : length l.yielded + length (drain_items l.frame-iterator) ≡ length l.fn.frames.items;
}
