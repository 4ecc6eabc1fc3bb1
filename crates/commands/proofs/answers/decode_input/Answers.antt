use Rattle.std.proofs.Common.{refl, subst}
use Rattle.commands.specs.{declared.status.Status.Status, Replies.{Done, IsDecodeReply, WasTold}}
use Rattle.commands.proofs.Replied.{starved}
use Rattle.commands.proofs.answers.decode_input.Goals as goal

pub returns-in-Ok : goal.returns-in-Ok
returns-in-Ok g c = (
  Done c.in-Ok.text.items,
  c.in-Ok.ensures,
  subst
      (λ text. WasTold g.K.Sink.written g.K.Sink.faults c.args.out.now c.tell.new.out text Status.Done c.tell.result)
      c.deref.ensures.value c.tell.ensures,
)

pub returns-in-Err : goal.returns-in-Err
returns-in-Err g c =
    starved g.K.Sink.written g.K.Sink.faults (IsDecodeReply c.args.bytes.now) c.args.out.now refl
