use Rattle.std.proofs.Common.{◌≡◌, ◌++◌, take}
use Rattle.flood.specs.State.{first_sendings}
use Rattle.control_channels.specs.{Controllers.floods_to, Frames.{AllSpelled, frames_to}}
use Rattle.control_channels.proofs.floods.frame_first_sendings.Given as goal

abbrev pub invariant-loop-neighbour : goal.invariant-loop-neighbour
invariant-loop-neighbour l = record {
  frames : l.frames.items ≡ l.initial.frames.items ++ frames_to l.me
      (floods_to (first_sendings l.new.from l.new.origin l.new.row.now (take l.neighbour-index l.neighbours)));
  spelled : AllSpelled l.me
      (floods_to (first_sendings l.new.from l.new.origin l.new.row.now (take l.neighbour-index l.neighbours)));
}
