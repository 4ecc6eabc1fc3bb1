use Rattle.std.proofs.lemmas.Result.{IfErr-weaker}
use Rattle.world_core.proofs.Acting.{not-ticked, ticked-steps}
use Rattle.ason_base.proofs.Results.{on_ok}
use Rattle.world_core.proofs.world.World.tick.Goals as goal

pub returns-clause-done : goal.returns-clause-done
returns-clause-done c = on_ok c.act.result _ _ (λ acted t. ticked-steps t _ _ _ acted) c.act.ensures.done

pub returns-clause-refused : goal.returns-clause-refused
returns-clause-refused c = IfErr-weaker c.act.result _ _ (λ f unable e t. not-ticked t _ _ (unable e)) c.act.ensures.refused
