use Rattle.trace_text.proofs.OneCheck.{one_check}
use Rattle.trace_text.proofs.laws.every_check.Goals as goal

pub returns : goal.returns
returns c =
    one_check (record {
      topology = c.every_world_run.ensures.topology;
      shown = c.every_world_run.ensures.image;
      laws = c.every_world_run.ensures.laws;
    })
