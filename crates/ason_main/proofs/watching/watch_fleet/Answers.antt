use Rattle.std.proofs.Common.{[], Some, refl, subst, sym}
use Rattle.round_rules.specs.Records.{new_record}
use Rattle.fleet.specs.Standing.{FleetState}
use Rattle.script_rules.specs.Outputs.{script_of}
use Rattle.commands.specs.{declared.status.Status.Status, Replies.{WasTold, Watch}}
use Rattle.ason_main.specs.{Answers.{IsAnswered, printing}, Outputs.{HasBeenCut, HasEnded, IsBegun, IsBrokenOff, end_stage}, Running.HasWritten, Views.HasReadAtEnd}
use Rattle.ason_main.proofs.{Viewed.view_lasts, WatchReplies.{stop-isnt_done, view_starved, view_told, watch_failed, watch_starved, watch_stopped}}
use Rattle.ason_main.proofs.watching.watch_fleet.Goals as goal

pub view_of-requires : goal.view_of-requires
view_of-requires g c =
    let is = c.in-Ended.ensures.ran.1 in
    view_lasts c.args.plan.now.topology [] (end_stage is.more).lines new_record (end_stage is.more).made
    c.args.watched.now.node c.args.fleet.now c.run_plan.new.fleet c.requires.new is.kept.stands
    (c.in-Ended.ensures.views refl) c.requires.view

pub returns-in-Ok-clause-answer : goal.returns-in-Ok-clause-answer
returns-in-Ok-clause-answer g c bs name plan named =
    let p = c.args.plan.now in
    let f = c.run_plan.new.fleet in
    subst (λ (f : FleetState). IsAnswered g.K.Sink.written g.K.Sink.faults (Watch c.args.pace name) bs c.args.out.now
    c.tell.new.out (Some f) c.tell.result) (sym c.view_of.ensures.same)
    (view_told g.K.Sink.written g.K.Sink.faults bs name p c.args.pace c.args.watched.now.node f c.args.out.now plan
    named c.run_plan.new.out c.tell.new.out c.in-Ended.ensures.ran.0
    (subst (λ w. HasEnded p (printing w) f (g.K.Sink.written c.args.out.now) (g.K.Sink.written c.run_plan.new.out))
    c.workers-workers.ensures.workers c.in-Ended.ensures.ran.1)
    c.in-Ok.text.items c.tell.result c.in-Ok.ensures.text
    (subst (λ text. WasTold g.K.Sink.written g.K.Sink.faults c.run_plan.new.out c.tell.new.out text Status.Done
    c.tell.result) c.deref.ensures.value c.tell.ensures))

pub returns-in-Err-clause-answer : goal.returns-in-Err-clause-answer
returns-in-Err-clause-answer g c bs name plan named =
    let p = c.args.plan.now in
    let f = c.run_plan.new.fleet in
    subst (λ (f : FleetState). IsAnswered g.K.Sink.written g.K.Sink.faults (Watch c.args.pace name) bs c.args.out.now
    c.run_plan.new.out (Some f) Status.OutOfMemory) (sym c.view_of.ensures.same)
    (view_starved g.K.Sink.written g.K.Sink.faults bs name p c.args.pace c.args.watched.now.node f c.args.out.now plan
    named c.run_plan.new.out c.every_law.ensures
    (subst (λ w. HasEnded p (printing w) f (g.K.Sink.written c.args.out.now) (g.K.Sink.written c.run_plan.new.out))
    c.workers-workers.ensures.workers c.in-Ended.ensures.ran.1))

pub returns-in-AtLimit-clause-answer : goal.returns-in-AtLimit-clause-answer
returns-in-AtLimit-clause-answer g c bs name plan named =
    let p = c.args.plan.now in
    let f = c.run_plan.new.fleet in
    watch_stopped g.K.Sink.written g.K.Sink.faults bs name p c.args.pace c.args.watched.now.node f c.args.out.now plan
    named c.in-AtLimit.node c.run_plan.new.out c.tell_stop.new.out c.tell_stop.result c.every_law.ensures
    c.in-AtLimit.ensures.ran.0
    (subst (λ w. HasBeenCut p (printing w) c.in-AtLimit.node f (g.K.Sink.written c.args.out.now)
    (g.K.Sink.written c.run_plan.new.out)) c.workers-workers.ensures.workers c.in-AtLimit.ensures.ran.1)
    c.tell_stop.ensures

pub returns-in-Failed-clause-answer : goal.returns-in-Failed-clause-answer
returns-in-Failed-clause-answer g c bs name plan named =
    let p = c.args.plan.now in
    watch_failed g.K.Sink.written g.K.Sink.faults bs name p c.args.pace c.args.watched.now.node c.run_plan.new.fleet
    c.args.out.now plan named c.run_plan.new.out c.in-Failed.ensures.ran.0
    (subst (λ w. HasWritten (g.K.Sink.written c.args.out.now) (g.K.Sink.written c.run_plan.new.out)
    (IsBrokenOff p (printing w) c.run_plan.new.fleet)) c.workers-workers.ensures.workers c.in-Failed.ensures.ran.1)

pub returns-in-OutOfMemory-clause-answer : goal.returns-in-OutOfMemory-clause-answer
returns-in-OutOfMemory-clause-answer g c bs name plan named =
    let p = c.args.plan.now in
    watch_starved g.K.Sink.written g.K.Sink.faults bs name p c.args.pace c.args.watched.now.node c.run_plan.new.fleet
    c.args.out.now plan named c.run_plan.new.out
    (subst (λ w. HasWritten (g.K.Sink.written c.args.out.now) (g.K.Sink.written c.run_plan.new.out)
    (IsBegun p (printing w) (script_of p) c.run_plan.new.fleet)) c.workers-workers.ensures.workers
    c.in-OutOfMemory.ensures.ran.1)

pub returns-in-Ok-clause-read : goal.returns-in-Ok-clause-read
returns-in-Ok-clause-read g c done =
    subst (λ f. HasReadAtEnd c.args.watched.now.node f c.view_of.new.watched.viewer) (sym c.view_of.ensures.same)
    (_, c.in-Ok.ensures.read.table, c.in-Ok.ensures.read.read)

pub returns-in-AtLimit-clause-read : goal.returns-in-AtLimit-clause-read
returns-in-AtLimit-clause-read g c done =
    absurd (stop-isnt_done g.K.Sink.written g.K.Sink.faults c.run_plan.new.out c.tell_stop.new.out _ c.tell_stop.result
    c.tell_stop.ensures done)
