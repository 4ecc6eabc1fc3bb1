use Rattle.flood.proofs.DueOrder.{acked_in_order}
use Rattle.flood.proofs.neighbours.FloodNeighbour.take_ack.Goals as goal

pub invariant_of-self : goal.invariant_of-self
invariant_of-self c = rw c.take_off.ensures (acked_in_order c.self.inside.sent c.args.number c.self.inside.due.items
    c.self.invariant)
