use Rattle.std.proofs.{Common.{inl, inr, refl, subst, ◌∙◌}, KnownBytes.Appends-nil}
use Rattle.commands.specs.{declared.status.Status.Status, Replies.WasTold}
use Rattle.commands.proofs.telling.tell_unknown.Goals as goal

pub returns-in-Ok : goal.returns-in-Ok
returns-in-Ok g c =
    inl (subst
    (λ text. WasTold g.K.Sink.written g.K.Sink.faults c.args.out.now c.tell.new.out text Status.Done c.tell.result)
    (c.deref.ensures.value ∙ c.in-Ok.ensures) c.tell.ensures)

pub returns-in-Err : goal.returns-in-Err
returns-in-Err g c = inr (refl, Appends-nil (g.K.Sink.written c.args.out.now))
