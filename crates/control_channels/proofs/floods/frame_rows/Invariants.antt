use Rattle.std.proofs.Common.{◌≡◌, ◌++◌, take}
use Rattle.flood.specs.State.{due_to}
use Rattle.control_channels.specs.{Controllers.floods_to, Frames.{AllSpelled, frames_to}}
use Rattle.control_channels.proofs.floods.frame_rows.Given as goal

abbrev pub invariant-loop-row : goal.invariant-loop-row
invariant-loop-row l = record {
  frames : l.frames.items ≡ l.initial.frames.items ++
      frames_to l.me (floods_to (due_to l.to (take l.row-index l.due)));
  spelled : AllSpelled l.me (floods_to (due_to l.to (take l.row-index l.due)));
}
