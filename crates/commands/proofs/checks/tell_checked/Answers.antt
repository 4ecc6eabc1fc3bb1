use Rattle.std.proofs.Common.{refl, subst}
use Rattle.commands.specs.{declared.status.Status.Status, Replies.{Done, IsCheckReply, WasTold}}
use Rattle.commands.proofs.Replied.{starved}
use Rattle.commands.proofs.checks.tell_checked.Goals as goal

pub returns-in-Ok : goal.returns-in-Ok
returns-in-Ok g c bs checked = (
  Done c.in-Ok.text.items,
  (c.args.checked.now, checked, c.in-Ok.ensures),
  subst
      (λ text. WasTold g.K.Sink.written g.K.Sink.faults c.args.out.now c.tell.new.out text Status.Done c.tell.result)
      c.deref.ensures.value c.tell.ensures,
)

pub returns-in-Err : goal.returns-in-Err
returns-in-Err g c bs checked =
    starved g.K.Sink.written g.K.Sink.faults (IsCheckReply bs) c.args.out.now refl
