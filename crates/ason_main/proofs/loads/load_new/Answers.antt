use Rattle.std.proofs.Common.{inl}
use Rattle.ason_main.proofs.LoadReplies.{load_starved}
use Rattle.ason_main.proofs.loads.load_new.Goals as goal

pub returns-in-Err : goal.returns-in-Err
returns-in-Err g c =
    load_starved g.K.Sink.written g.K.Sink.faults c.args.parts.now c.args.out.now c.args.kept.now
    (inl c.requires.none)
