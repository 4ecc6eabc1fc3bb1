use Rattle.std.proofs.Common.{◌<◌, ◌+◌, ◌^◌, ◌∙◌, ap, length, arith}
use Rattle.control_channels.specs.declared.adjacencies.Adjacency.{Adjacency}
use Rattle.control_channels.proofs.Loops.{count-more, most-more, total-fits}
use Rattle.control_channels.proofs.adjacencies.pending.Goals as goal

pub overflow_add-total : goal.overflow_add-total
overflow_add-total c =
    let small : c.loop-adjacency.total + c.pending-total.result < 2 ^ 64 =
    total-fits c.loop-adjacency.adjacency-index
    (length c.args.adjacencies.now) c.loop-adjacency.total c.pending-total.result
    c.loop-adjacency.invariant.small c.pending-total.ensures.small c.loop-adjacency-test.true c.requires in
    omega arith

pub loop-adjacency-preserved : goal.loop-adjacency-preserved
loop-adjacency-preserved c = record {
  count = count-more c.args.adjacencies.now c.loop-adjacency.adjacency-index c.adjacency-item.result
      c.loop-adjacency.total c.pending-total.result c.loop-adjacency-test.true
      c.loop-adjacency.invariant.count (c.pending-total.ensures.count ∙
      ap (λ (a : Adjacency). length a.hop.state.unacked) c.adjacency-item.is);
  small = most-more c.loop-adjacency.adjacency-index c.loop-adjacency.total c.pending-total.result
      c.loop-adjacency.invariant.small c.pending-total.ensures.small;
}
