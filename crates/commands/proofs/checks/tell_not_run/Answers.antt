use Rattle.std.proofs.Common.{refl, subst}
use Rattle.commands.specs.{declared.status.Status.Status, Replies.{IsCheckReply, NotRun, WasTold}}
use Rattle.commands.proofs.Replied.{starved}
use Rattle.commands.proofs.checks.tell_not_run.Goals as goal

pub returns-in-Ok : goal.returns-in-Ok
returns-in-Ok g c bs not = (
  NotRun c.in-Ok.text.items,
  (c.args.i, not, c.in-Ok.ensures),
  subst
      (λ text. WasTold g.K.Sink.written g.K.Sink.faults c.args.out.now c.tell.new.out text Status.NotRun c.tell.result)
      c.deref.ensures.value c.tell.ensures,
)

pub returns-in-Err : goal.returns-in-Err
returns-in-Err g c bs not = starved g.K.Sink.written g.K.Sink.faults (IsCheckReply bs) c.args.out.now refl
