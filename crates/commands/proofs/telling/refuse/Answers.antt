use Rattle.std.proofs.Common.{inl, subst, ◌∙◌}
use Rattle.commands.specs.{declared.status.Status.Status, Replies.WasTold}
use Rattle.commands.proofs.telling.refuse.Goals as goal

pub returns-in-Ok : goal.returns-in-Ok
returns-in-Ok g c =
    inl (subst
    (λ text. WasTold g.K.Sink.written g.K.Sink.faults c.args.out.now c.tell.new.out text Status.PlanRefused
    c.tell.result)
    (c.deref.ensures.value ∙ c.in-Ok.ensures)
    c.tell.ensures)
