use Rattle.std.proofs.Common.{◌≡◌, ◌++◌, map}
use Rattle.std.specs.Vec.Iter.{into_iter_items}
use Rattle.control_channels.specs.{Adjacencies.{AllCanGo, next_at, packets_on, reaches, rested, sent_on}, Frames.{AllSpelled, frames_to}}
use Rattle.control_channels.proofs.adjacencies.prepare_all.Given as goal

abbrev pub invariant-loop-out : goal.invariant-loop-out
invariant-loop-out l = record {
  can : AllCanGo (reaches l.adjacencies) (next_at l.adjacencies) (into_iter_items l.out-iterator);
  rest : map rested l.adjacencies ≡ map rested l.initial.adjacencies;
  hops : sent_on (next_at l.adjacencies) (into_iter_items l.out-iterator) ≡ sent_on
      (next_at l.initial.adjacencies) l.fn.outs.items;
  frames : l.frames.items ++ frames_to l.me (packets_on (next_at l.adjacencies) (into_iter_items l.out-iterator)) ≡
      l.initial.frames.items ++ frames_to l.me (packets_on (next_at l.initial.adjacencies) l.fn.outs.items);
  spelled : AllSpelled l.me (packets_on (next_at l.adjacencies) (into_iter_items l.out-iterator)) →
      AllSpelled l.me (packets_on (next_at l.initial.adjacencies) l.fn.outs.items);
}
