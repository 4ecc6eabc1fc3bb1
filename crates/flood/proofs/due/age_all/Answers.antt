use Rattle.flood.specs.State.{older_due}
use Rattle.flood.proofs.InPlace.{aged_is, changed_more}
use Rattle.flood.proofs.due.age_all.Goals as goal

pub loop-d-preserved : goal.loop-d-preserved
loop-d-preserved c =
    changed_more older_due c.args.due.now c.loop-d.due c.loop-d.d-index c.d-item.result _ c.loop-d-test.true
    c.loop-d.invariant (aged_is _ c.age_after_tick-d.result c.age_after_tick-d.ensures)
