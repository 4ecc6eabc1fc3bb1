use Rattle.std.proofs.Common.{arith}
use Rattle.flood.specs.State.{queued_unless, unqueued_unless}
use Rattle.flood.proofs.{DueOrder.back_as_it_was, InPlace.{changed_more, taken_back}}
use Rattle.flood.proofs.neighbours.queue_all.Goals as goal

pub returns-in-Err-clause-err : goal.returns-in-Err-clause-err
returns-in-Err-clause-err c =
    taken_back (queued_unless c.args.from c.args.origin c.args.age c.args.row.now) (unqueued_unless c.args.from)
    (back_as_it_was c.args.from c.args.origin c.args.age c.args.row.now) c.args.neighbours.now c.loop-i.neighbours
    c.unqueue_first.new.neighbours c.loop-i.i c.index-neighbours-i.result c.queue_unless.new.self c.loop-i.invariant
    c.in-Err.ensures.err c.unqueue_first.ensures

pub loop-i-preserved : goal.loop-i-preserved
loop-i-preserved c =
    changed_more (queued_unless c.args.from c.args.origin c.args.age c.args.row.now) c.args.neighbours.now
    c.loop-i.neighbours c.loop-i.i
    c.index-neighbours-i.result _ (omega arith) c.loop-i.invariant c.in_default.ensures.ok
