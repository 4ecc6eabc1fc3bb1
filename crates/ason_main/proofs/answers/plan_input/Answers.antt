use Rattle.ason_main.specs.Answers.{asked_for}
use Rattle.ason_main.proofs.NoFleet.{refused}
use Rattle.ason_main.proofs.answers.plan_input.Goals as goal

pub returns-in-Err : goal.returns-in-Err
returns-in-Err g c =
    refused g.K.Sink.written g.K.Sink.faults (asked_for c.args.asked.now) c.args.bytes.now c.args.out.now
    c.tell_error.new.out c.args.kept.now c.tell_error.result c.requires.takes c.requires.none
    (c.tell_error.ensures c.args.bytes.now c.in-Err.ensures.plan)
