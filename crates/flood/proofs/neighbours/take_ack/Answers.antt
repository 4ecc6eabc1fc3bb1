use Rattle.flood.specs.State.{acked_by}
use Rattle.flood.proofs.InPlace.{changed_more}
use Rattle.flood.proofs.neighbours.take_ack.Goals as goal

pub loop-n-preserved : goal.loop-n-preserved
loop-n-preserved c = changed_more (acked_by c.args.from c.args.number) c.args.neighbours.now c.loop-n.neighbours
    c.loop-n.n-index c.n-item.result _ c.loop-n-test.true c.loop-n.invariant c.take_ack.ensures
