use Rattle.std.proofs.Common.{inl}
use Rattle.ason_main.specs.Answers.{generated}
use Rattle.ason_main.proofs.LoadReplies.{load_starved}
use Rattle.ason_main.proofs.loads.load.Goals as goal

pub returns-in-Err : goal.returns-in-Err
returns-in-Err g c =
    load_starved g.K.Sink.written g.K.Sink.faults (generated c.args.what) c.args.out.now c.args.kept.now
    (inl c.requires)
