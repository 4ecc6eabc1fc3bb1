use Rattle.std.proofs.Common.{length}
use Rattle.flood.specs.State.{older_neighbour}
use Rattle.flood.proofs.{InPlace.settled, Counting.counted-tick}
use Rattle.flood.proofs.flood.Flood.age.Goals as goal

pub invariant_of-self : goal.invariant_of-self
invariant_of-self c =
    rw (settled older_neighbour c.self.inside.neighbours.items c.deref_mut.result.now c.age_neighbours.new.neighbours
    c.self.inside.neighbours.len c.self.inside.neighbours.ok.0 c.deref_mut.ensures.value c.age_neighbours.ensures)
    (counted-tick (length c.self.inside.known) c.self.inside.neighbours.items c.self.invariant)
