use Rattle.std.proofs.Common.{refl, subst}
use Rattle.std.specs.Prelude.{Err}
use Rattle.commands.specs.Replies.{IsCheckReply}
use Rattle.commands.proofs.Replied.{refused_trace, starved}
use Rattle.trace_text.specs.Checks.{ChecksAs}
use Rattle.commands.proofs.checks.tell_fault.Goals as goal

pub returns-in-NotRun : goal.returns-in-NotRun
returns-in-NotRun g c bs checks =
    c.tell_not_run.ensures bs (subst (λ e. ChecksAs bs (Err e)) c.in-NotRun.is checks)

pub returns-in-Plan : goal.returns-in-Plan
returns-in-Plan g c bs checks =
    refused_trace g.K.Sink.written g.K.Sink.faults bs c.in-Plan.fault c.args.out.now c.refuse.new.out c.refuse.result
    (subst (λ e. ChecksAs bs (Err e)) c.in-Plan.is checks) c.refuse.ensures

pub returns-in-OutOfMemory : goal.returns-in-OutOfMemory
returns-in-OutOfMemory g c bs checks =
    starved g.K.Sink.written g.K.Sink.faults (IsCheckReply bs) c.args.out.now refl
