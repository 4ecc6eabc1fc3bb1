use Rattle.std.proofs.Common.{arith}
use Rattle.flood.specs.State.{unqueued_unless}
use Rattle.flood.proofs.InPlace.{changed_more}
use Rattle.flood.proofs.neighbours.unqueue_first.Goals as goal

pub loop-i-preserved : goal.loop-i-preserved
loop-i-preserved c =
    changed_more (unqueued_unless c.args.from) c.args.neighbours.now c.loop-i.neighbours c.loop-i.i
    c.index-neighbours-i.result _ (omega arith)
    c.loop-i.invariant c.unqueue_unless.ensures
