use Rattle.std.proofs.Common.{◌++◌, ap, inl, subst, ◌∙◌}
use Rattle.commands.specs.{declared.status.Status.Status, Replies.WasTold}
use Rattle.table_text.specs.TableText.{stopped_text}
use Rattle.commands.proofs.telling.tell_stop.Goals as goal

pub returns-in-Ok : goal.returns-in-Ok
returns-in-Ok g c =
    let line = stopped_text c.args.plan.now c.args.node in
    inl (subst
    (λ text. WasTold g.K.Sink.written g.K.Sink.faults c.args.out.now c.tell.new.out text Status.EventLimit
    c.tell.result)
    (c.deref.ensures.value ∙ (c.in-Ok.ensures.ok ∙ ap (λ text. text ++ line) c.new-text.ensures.items))
    c.tell.ensures)
