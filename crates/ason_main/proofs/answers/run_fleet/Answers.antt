use Rattle.std.proofs.Common.{Some, refl, subst}
use Rattle.script_rules.specs.Outputs.{script_of}
use Rattle.ason_main.specs.{Answers.printing, Outputs.{HasBeenCut, HasEnded, IsBegun, IsBrokenOff}, Running.HasWritten}
use Rattle.ason_main.proofs.Replies.{ended, failed, stopped, unfinished}
use Rattle.ason_main.proofs.answers.run_fleet.Goals as goal

pub returns-in-Ended : goal.returns-in-Ended
returns-in-Ended g c bs plan =
    let p = c.args.plan.now in
    let f = c.run_plan.new.fleet in
    ended g.K.Sink.written g.K.Sink.faults bs p c.args.pace f (Some f) c.args.out.now c.run_plan.new.out plan refl
    (subst (λ w. HasEnded p (printing w) f (g.K.Sink.written c.args.out.now) (g.K.Sink.written c.run_plan.new.out))
    c.workers-workers.ensures.workers c.in-Ended.ensures.ran.1)

pub returns-in-AtLimit : goal.returns-in-AtLimit
returns-in-AtLimit g c bs plan =
    let p = c.args.plan.now in
    let f = c.run_plan.new.fleet in
    stopped g.K.Sink.written g.K.Sink.faults c.every_law.ensures bs p c.args.pace c.in-AtLimit.node f (Some f)
    c.args.out.now c.run_plan.new.out c.tell_stop.new.out c.tell_stop.result plan refl c.in-AtLimit.ensures.ran.0
    (subst (λ w. HasBeenCut p (printing w) c.in-AtLimit.node f (g.K.Sink.written c.args.out.now) (g.K.Sink.written
    c.run_plan.new.out))
    c.workers-workers.ensures.workers c.in-AtLimit.ensures.ran.1)
    c.tell_stop.ensures

pub returns-in-Failed : goal.returns-in-Failed
returns-in-Failed g c bs plan =
    let p = c.args.plan.now in
    let f = c.run_plan.new.fleet in
    failed g.K.Sink.written g.K.Sink.faults bs p c.args.pace f (Some f) c.args.out.now c.run_plan.new.out plan refl
    c.in-Failed.ensures.ran.0
    (subst (λ w. HasWritten (g.K.Sink.written c.args.out.now) (g.K.Sink.written c.run_plan.new.out)
    (IsBrokenOff p (printing w) f))
    c.workers-workers.ensures.workers c.in-Failed.ensures.ran.1)

pub returns-in-OutOfMemory : goal.returns-in-OutOfMemory
returns-in-OutOfMemory g c bs plan =
    let p = c.args.plan.now in
    let f = c.run_plan.new.fleet in
    unfinished g.K.Sink.written g.K.Sink.faults bs p c.args.pace f (Some f) c.args.out.now c.run_plan.new.out plan
    refl
    (subst (λ w. HasWritten (g.K.Sink.written c.args.out.now) (g.K.Sink.written c.run_plan.new.out)
    (IsBegun p (printing w) (script_of p) f))
    c.workers-workers.ensures.workers c.in-OutOfMemory.ensures.ran.1)
