use Rattle.commands.specs.Replies.{Trace}
use Rattle.ason_main.proofs.Replies.{no_memory}
use Rattle.ason_main.proofs.traces.trace.Goals as goal

pub returns-in-Err : goal.returns-in-Err
returns-in-Err g c =
    no_memory g.K.Sink.written g.K.Sink.faults (Trace c.args.pace) c.args.bytes.now c.args.out.now c.args.kept.now
    c.requires.none
