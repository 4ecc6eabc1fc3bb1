use Rattle.std.proofs.Common.{subst}
use Rattle.script_rules.specs.Outputs.{script_of}
use Rattle.ason_main.specs.{Outputs.{HasBeenCut, HasEnded, IsBegun, silent_on}, Running.HasWritten, Traces.StopsTrace}
use Rattle.ason_main.proofs.{SurveyRuns.never_failed, TraceReplies.{trace_failed, trace_starved, trace_stopped, trace_unfinished, traced}}
use Rattle.ason_main.proofs.traces.trace_fleet.Goals as goal

pub unreachable-requires : goal.unreachable-requires
unreachable-requires g c =
    never_failed c.args.plan.now c.workers-workers.result c.run_plan.new.fleet c.in-Failed.ensures.ran.1.0
    c.in-Failed.ensures.ran.1.1

pub returns-in-Ok : goal.returns-in-Ok
returns-in-Ok g c =
    let p = c.args.plan.now in
    let f = c.run_plan.new.fleet in
    traced g.K.Sink.written g.K.Sink.faults c.args.bytes.now p c.args.pace f c.args.out.now c.run_plan.new.out
    c.tell_trace.new.out c.requires.plan c.every_law.ensures.rounds c.every_checked.ensures.posts
    c.every_checked.ensures.run
    (subst (λ w. HasEnded p (silent_on w) f (g.K.Sink.written c.args.out.now) (g.K.Sink.written c.run_plan.new.out))
    c.workers-workers.ensures.workers c.in-Ended.ensures.ran.1)
    c.in-Ok.ensures.all

pub returns-in-Err-Failed : goal.returns-in-Err-Failed
returns-in-Err-Failed g c =
    let p = c.args.plan.now in
    let f = c.run_plan.new.fleet in
    trace_failed g.K.Sink.written g.K.Sink.faults c.args.bytes.now p c.args.pace f c.args.out.now c.run_plan.new.out
    c.tell_trace.new.out c.requires.plan
    (subst (λ w. HasEnded p (silent_on w) f (g.K.Sink.written c.args.out.now) (g.K.Sink.written c.run_plan.new.out))
    c.workers-workers.ensures.workers c.in-Ended.ensures.ran.1)
    c.in-Ended.ensures.ran.0
    (subst (StopsTrace p c.args.bytes.now f (g.K.Sink.written c.run_plan.new.out)
    (g.K.Sink.written c.tell_trace.new.out) (g.K.Sink.faults c.run_plan.new.out)
    (g.K.Sink.faults c.tell_trace.new.out)) c.in-Err-Failed.field-0-is c.in-Err-Failed.ensures.stops)

pub returns-in-Err-OutOfMemory : goal.returns-in-Err-OutOfMemory
returns-in-Err-OutOfMemory g c =
    let p = c.args.plan.now in
    let f = c.run_plan.new.fleet in
    trace_starved g.K.Sink.written g.K.Sink.faults c.args.bytes.now p c.args.pace f c.args.out.now c.run_plan.new.out
    c.tell_trace.new.out c.requires.plan c.every_law.ensures
    (subst (λ w. HasEnded p (silent_on w) f (g.K.Sink.written c.args.out.now) (g.K.Sink.written c.run_plan.new.out))
    c.workers-workers.ensures.workers c.in-Ended.ensures.ran.1)
    (subst (StopsTrace p c.args.bytes.now f (g.K.Sink.written c.run_plan.new.out)
    (g.K.Sink.written c.tell_trace.new.out) (g.K.Sink.faults c.run_plan.new.out)
    (g.K.Sink.faults c.tell_trace.new.out)) c.in-Err-OutOfMemory.field-0-is c.in-Err-OutOfMemory.ensures.stops)

pub returns-in-AtLimit : goal.returns-in-AtLimit
returns-in-AtLimit g c =
    let p = c.args.plan.now in
    let f = c.run_plan.new.fleet in
    trace_stopped g.K.Sink.written g.K.Sink.faults c.args.bytes.now p c.args.pace f c.args.out.now c.run_plan.new.out
    c.tell_stop.new.out c.requires.plan c.every_law.ensures c.in-AtLimit.node c.tell_stop.result
    c.in-AtLimit.ensures.ran.0
    (subst (λ w. HasBeenCut p (silent_on w) c.in-AtLimit.node f (g.K.Sink.written c.args.out.now)
    (g.K.Sink.written c.run_plan.new.out)) c.workers-workers.ensures.workers c.in-AtLimit.ensures.ran.1)
    c.tell_stop.ensures

pub returns-in-OutOfMemory : goal.returns-in-OutOfMemory
returns-in-OutOfMemory g c =
    let p = c.args.plan.now in
    let f = c.run_plan.new.fleet in
    trace_unfinished g.K.Sink.written g.K.Sink.faults c.args.bytes.now p c.args.pace f c.args.out.now
    c.run_plan.new.out c.run_plan.new.out c.requires.plan
    (subst (λ w. HasWritten (g.K.Sink.written c.args.out.now) (g.K.Sink.written c.run_plan.new.out)
    (IsBegun p (silent_on w) (script_of p) f)) c.workers-workers.ensures.workers c.in-OutOfMemory.ensures.ran.1)
