use Rattle.std.proofs.Common.{length}
use Rattle.flood.proofs.Counting.{pending-fits}
use Rattle.flood.proofs.flood.Flood.pending.Goals as goal

pub pending-requires : goal.pending-requires
pending-requires c = rw c.deref.ensures.value
    (pending-fits (length c.self.inside.known) c.self.inside.neighbours.items c.self.invariant)
