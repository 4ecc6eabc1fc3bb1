use Rattle.std.proofs.Common.{get_or, ap}
use Rattle.hop_reliable.specs.Hop.{PreparedHop}
use Rattle.control_channels.specs.Adjacencies.{committed, with_hop}
use Rattle.control_channels.proofs.Loops.{mapped-more}
use Rattle.control_channels.proofs.adjacencies.commit_all.Goals as goal

pub loop-adjacency-preserved : goal.loop-adjacency-preserved
loop-adjacency-preserved c =
    let before = get_or c.loop-adjacency.adjacencies c.loop-adjacency.adjacency-index c.adjacency-item.result in
    mapped-more committed c.args.adjacencies.now c.loop-adjacency.adjacencies c.loop-adjacency.adjacency-index
    c.adjacency-item.result (with_hop c.commit.new.self before) c.loop-adjacency-test.true
    c.loop-adjacency.invariant (ap (λ (h : PreparedHop). with_hop h before) c.commit.ensures)
