use Rattle.std.proofs.Common.{subst, sym}
use Rattle.ason_base.proofs.Results.{passed_on}
use Rattle.script_rules.specs.Outputs.{script_of}
use Rattle.ason_main.specs.Surveys.{StopsSurvey, silent}
use Rattle.ason_main.proofs.{Replies.output_begun, SurveyRuns.{begun_nothing, begun_silently, cut_silently, ended_silently, never_failed, stopped_silently, surveyed}}
use Rattle.ason_main.proofs.surveying.survey_of.Goals as goal

pub returns-in_err-text-in-Ended-clause-stops : goal.returns-in_err-text-in-Ended-clause-stops
returns-in_err-text-in-Ended-clause-stops g c =
    let p = c.args.plan.now in
    let ended = c.in-Ended.ensures.ran.1 in
    passed_on c.from_residual.result _ _
    (λ e same. subst (StopsSurvey p c.run_plan.new.fleet) (sym same)
    (begun_nothing p 1 (script_of p) c.run_plan.new.fleet ended.text
    (output_begun c.every_law.ensures p silent c.run_plan.new.fleet ended.more ended.text ended.output ended.kept)))
    c.from_residual.ensures.1

pub returns-in_err-text-in-Ended-clause-written : goal.returns-in_err-text-in-Ended-clause-written
returns-in_err-text-in-Ended-clause-written g c =
    ended_silently c.args.plan.now 1 c.run_plan.new.fleet (g.K.Sink.written c.args.out.now) (g.K.Sink.written
    c.run_plan.new.out)
    c.in-Ended.ensures.ran.1

pub unreachable-requires : goal.unreachable-requires
unreachable-requires g c =
    never_failed c.args.plan.now 1 c.run_plan.new.fleet c.in-Failed.ensures.ran.1.0 c.in-Failed.ensures.ran.1.1

pub returns-in_ok-text-in-Ended-clause-done : goal.returns-in_ok-text-in-Ended-clause-done
returns-in_ok-text-in-Ended-clause-done g c =
    surveyed c.no_contend.ensures.rows c.args.plan.now c.run_plan.new.fleet
    (g.K.Sink.written c.args.out.now) (g.K.Sink.written c.run_plan.new.out)
    c.in_ok-text-in-Ended.text.items c.in-Ended.ensures.ran.1 c.in_ok-text-in-Ended.ensures

pub returns-in_ok-text-in-Ended-clause-written : goal.returns-in_ok-text-in-Ended-clause-written
returns-in_ok-text-in-Ended-clause-written g c =
    ended_silently c.args.plan.now 1 c.run_plan.new.fleet (g.K.Sink.written c.args.out.now) (g.K.Sink.written
    c.run_plan.new.out)
    c.in-Ended.ensures.ran.1

pub returns-in-AtLimit-clause-stops : goal.returns-in-AtLimit-clause-stops
returns-in-AtLimit-clause-stops g c =
    stopped_silently c.args.plan.now 1 c.in-AtLimit.node c.run_plan.new.fleet
    (g.K.Sink.written c.args.out.now) (g.K.Sink.written c.run_plan.new.out)
    c.in-AtLimit.ensures.ran.1

pub returns-in-AtLimit-clause-written : goal.returns-in-AtLimit-clause-written
returns-in-AtLimit-clause-written g c =
    cut_silently c.args.plan.now 1 c.in-AtLimit.node c.run_plan.new.fleet
    (g.K.Sink.written c.args.out.now) (g.K.Sink.written c.run_plan.new.out)
    c.in-AtLimit.ensures.ran.1

pub returns-in-OutOfMemory-clause-written : goal.returns-in-OutOfMemory-clause-written
returns-in-OutOfMemory-clause-written g c =
    let p = c.args.plan.now in
    (begun_silently p 1 (script_of p) c.run_plan.new.fleet (g.K.Sink.written c.args.out.now)
    (g.K.Sink.written c.run_plan.new.out) c.in-OutOfMemory.ensures.ran.1).1

pub returns-in-OutOfMemory-clause-stops : goal.returns-in-OutOfMemory-clause-stops
returns-in-OutOfMemory-clause-stops g c =
    let p = c.args.plan.now in
    (begun_silently p 1 (script_of p) c.run_plan.new.fleet (g.K.Sink.written c.args.out.now)
    (g.K.Sink.written c.run_plan.new.out) c.in-OutOfMemory.ensures.ran.1).0
