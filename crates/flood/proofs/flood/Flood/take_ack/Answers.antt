use Rattle.std.proofs.Common.{length}
use Rattle.flood.specs.State.{acked_by}
use Rattle.flood.proofs.{InPlace.settled, Counting.counted-ack}
use Rattle.flood.proofs.flood.Flood.take_ack.Goals as goal

pub invariant_of-self : goal.invariant_of-self
invariant_of-self c =
    rw (settled (acked_by c.args.from c.args.number) c.self.inside.neighbours.items c.deref_mut.result.now
    c.take_ack.new.neighbours c.self.inside.neighbours.len c.self.inside.neighbours.ok.0
    c.deref_mut.ensures.value c.take_ack.ensures)
    (counted-ack c.args.from c.args.number (length c.self.inside.known) c.self.inside.neighbours.items
    c.self.invariant)
