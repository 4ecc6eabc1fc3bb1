use Rattle.flood.specs.State.{older_neighbour}
use Rattle.flood.proofs.InPlace.{changed_more}
use Rattle.flood.proofs.neighbours.age_neighbours.Goals as goal

pub loop-n-preserved : goal.loop-n-preserved
loop-n-preserved c = changed_more older_neighbour c.args.neighbours.now c.loop-n.neighbours c.loop-n.n-index
    c.n-item.result _ c.loop-n-test.true c.loop-n.invariant c.age.ensures
