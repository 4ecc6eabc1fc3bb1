use Rattle.std.proofs.{Common.{sym, ◌∙◌}, lemmas.Result.IfErr-weaker}
use Rattle.world_core.proofs.Acting.{delivered-steps, not-taken, undelivered}
use Rattle.ason_base.proofs.Results.{on_ok}
use Rattle.world_core.proofs.world.World.deliver.Goals as goal

pub returns-in-None-clause-refused : goal.returns-in-None-clause-refused
returns-in-None-clause-refused c e t =
    undelivered t c.args.self.now c.args.to c.args.from c.args.number (sym c.in_ok-frame.ensures ∙ c.in-None.is)

pub returns-in-Some-clause-done : goal.returns-in-Some-clause-done
returns-in-Some-clause-done c =
    on_ok c.act.result _ _
    (λ acted t. delivered-steps t c.args.self.now c.act.new.self c.args.to c.args.from c.args.number c.in-Some.bytes
    (sym c.in_ok-frame.ensures ∙ c.in-Some.is) acted) c.act.ensures.done

pub returns-in-Some-clause-refused : goal.returns-in-Some-clause-refused
returns-in-Some-clause-refused c =
    IfErr-weaker c.act.result _ _
    (λ f unable e t. not-taken t c.args.self.now c.args.to c.args.from c.args.number c.in-Some.bytes
    (sym c.in_ok-frame.ensures ∙ c.in-Some.is) (unable e)) c.act.ensures.refused
