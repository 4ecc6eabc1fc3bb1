use Rattle.std.proofs.Common.{◌≡◌, ◌++◌, take}
use Rattle.std.specs.List.{flat_map}
use Rattle.flood.specs.State.{rows_sent_to}
use Rattle.control_channels.specs.{Controllers.floods_to, Frames.{AllSpelled, frames_to}}
use Rattle.control_channels.proofs.floods.frame_floods_due.Given as goal

abbrev pub invariant-loop-neighbour : goal.invariant-loop-neighbour
invariant-loop-neighbour l = record {
  frames : l.frames.items ≡ l.initial.frames.items ++
      frames_to l.me (floods_to (flat_map rows_sent_to (take l.neighbour-index l.neighbours)));
  spelled : AllSpelled l.me (floods_to (flat_map rows_sent_to (take l.neighbour-index l.neighbours)));
}
