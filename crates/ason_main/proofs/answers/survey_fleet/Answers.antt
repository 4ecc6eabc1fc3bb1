use Rattle.std.proofs.Common.{Some, refl, subst}
use Rattle.commands.specs.{declared.status.Status.Status, Replies.WasTold}
use Rattle.ason_main.specs.{declared.runner.stops.Stop.Stop, Surveys.StopsSurvey}
use Rattle.ason_main.proofs.Replies.{stopped_survey, survey_starved, surveyed}
use Rattle.ason_main.proofs.answers.survey_fleet.Goals as goal

pub returns-in-Ok : goal.returns-in-Ok
returns-in-Ok g c bs plan =
    let f = c.survey_of.new.fleet in
    surveyed g.K.Sink.written g.K.Sink.faults bs c.args.plan.now f (Some f) c.args.out.now c.survey_of.new.out
    c.tell.new.out c.in-Ok.text.items c.tell.result plan refl c.survey_of.ensures.written c.survey_of.ensures.rises
    c.in-Ok.ensures.done
    (subst (λ text. WasTold g.K.Sink.written g.K.Sink.faults c.survey_of.new.out c.tell.new.out text Status.Done
    c.tell.result) c.deref.ensures.value c.tell.ensures)

pub returns-in-Err-AtLimit : goal.returns-in-Err-AtLimit
returns-in-Err-AtLimit g c bs plan =
    let f = c.survey_of.new.fleet in
    let stops : StopsSurvey c.args.plan.now f (Stop.AtLimit c.in-Err-AtLimit.node) =
    subst (StopsSurvey c.args.plan.now f) c.in-Err-AtLimit.field-0-is c.in-Err-AtLimit.ensures.stops in
    stopped_survey g.K.Sink.written g.K.Sink.faults c.every_law.ensures bs c.args.plan.now c.in-Err-AtLimit.node f (Some f) c.args.out.now
    c.survey_of.new.out c.tell_stop.new.out c.tell_stop.result plan refl c.survey_of.ensures.written
    c.survey_of.ensures.rises stops c.tell_stop.ensures

pub returns-in-Err-OutOfMemory : goal.returns-in-Err-OutOfMemory
returns-in-Err-OutOfMemory g c bs plan =
    let f = c.survey_of.new.fleet in
    survey_starved g.K.Sink.written g.K.Sink.faults bs c.args.plan.now f (Some f) c.args.out.now c.survey_of.new.out
    plan refl c.survey_of.ensures.written
    (subst (StopsSurvey c.args.plan.now f) c.in-Err-OutOfMemory.field-0-is c.in-Err-OutOfMemory.ensures.stops)
