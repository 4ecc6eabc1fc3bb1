use Rattle.std.proofs.Common.{◌≡◌, ◌++◌, take}
use Rattle.std.specs.List.{flat_map}
use Rattle.control_channels.specs.{Adjacencies.again_to, Frames.{AllSpelled, frames_to}}
use Rattle.control_channels.proofs.adjacencies.frame_due.Given as goal

abbrev pub invariant-loop-adjacency : goal.invariant-loop-adjacency
invariant-loop-adjacency l = record {
  frames : l.frames.items ≡ l.initial.frames.items ++
      frames_to l.me (flat_map again_to (take l.adjacency-index l.adjacencies));
  spelled : AllSpelled l.me (flat_map again_to (take l.adjacency-index l.adjacencies));
}
