use Rattle.std.proofs.Common.{length, length-append, ◌∙◌}
use Rattle.flood.specs.State.{queued_unless, unqueued_unless}
use Rattle.flood.proofs.{Counting.{counted-row, less_than_most}, DueOrder.back_as_it_was, InPlace.{settled, settled_back}}
use Rattle.flood.proofs.flood.Flood.add.Goals as goal

pub invariant_of-self-in-Ok : goal.invariant_of-self-in-Ok
invariant_of-self-in-Ok c =
    let known = c.self.inside.known in
    let neighbours = c.self.inside.neighbours.items in
    rw (
      settled (queued_unless c.args.from c.args.origin c.args.age c.args.row) neighbours c.deref_mut.result.now
          c.queue_all.new.neighbours
          c.self.inside.neighbours.len c.self.inside.neighbours.ok.0 c.deref_mut.ensures.value
          c.in_ok-queue_all.ensures.ok,
      c.in-Ok.ensures.ok,
      length-append,
    )
    (counted-row c.args.from c.args.origin c.args.age c.args.row (length known) neighbours
    (less_than_most (record { me = c.self.inside.me; rows = known; neighbours = neighbours }) c.args.self.now
    c.self.view_is c.requires)
    c.self.invariant)

pub invariant_of-self-in-Err : goal.invariant_of-self-in-Err
invariant_of-self-in-Err c =
    rw (
      settled_back (queued_unless c.args.from c.args.origin c.args.age c.args.row) (unqueued_unless c.args.from)
          (back_as_it_was c.args.from c.args.origin c.args.age c.args.row) c.self.inside.neighbours.items
          c.deref_mut.result.now
          c.queue_all.new.neighbours c.deref_mut-in-Err.result.now c.unqueue_first.new.neighbours
          c.self.inside.neighbours.len
          c.len-count.result c.self.inside.neighbours.ok.0 c.deref_mut.ensures.value c.in_ok-queue_all.ensures.ok
          c.deref_mut-in-Err.ensures.value c.len-count.ensures c.unqueue_first.ensures,
      c.in-Err.ensures.err,
    ) c.self.invariant

pub returns-in-Err-clause-err : goal.returns-in-Err-clause-err
returns-in-Err-clause-err c =
    let back =
    settled_back (queued_unless c.args.from c.args.origin c.args.age c.args.row) (unqueued_unless c.args.from)
    (back_as_it_was c.args.from c.args.origin c.args.age c.args.row) c.self.inside.neighbours.items
    c.deref_mut.result.now
    c.queue_all.new.neighbours c.deref_mut-in-Err.result.now c.unqueue_first.new.neighbours
    c.self.inside.neighbours.len
    c.len-count.result c.self.inside.neighbours.ok.0 c.deref_mut.ensures.value c.in_ok-queue_all.ensures.ok
    c.deref_mut-in-Err.ensures.value c.len-count.ensures c.unqueue_first.ensures
    in
    (λ i. record { me = c.self.inside.me; rows = c.in-Err.ensures.err i; neighbours = back i }) ∙ c.self.view_is
