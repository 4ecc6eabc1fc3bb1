use Rattle.std.proofs.Common.{map, string_bytes}
use Rattle.ason_main.proofs.Complete.{is_checked_trace, is_complete, is_complete_load}
use Rattle.ason_main.proofs.answers.ason.Goals as goal

pub returns-clause-complete : goal.returns-clause-complete
returns-clause-complete g c =
    is_complete c.every_check.ensures g.S.Source.left g.S.Source.handed g.S.Source.ended g.S.Source.faults
    g.K.Sink.written g.K.Sink.faults
    (map string_bytes c.args.words.now) c.args.src.now c.answer.new.src c.args.out.now c.answer.new.out
    c.answer.ensures.0 c.answer.new.kept c.answer.result c.answer.ensures.1 c.answer.ensures.2

pub returns-clause-loads : goal.returns-clause-loads
returns-clause-loads g c =
    is_complete_load g.S.Source.left g.S.Source.handed g.S.Source.ended g.S.Source.faults g.K.Sink.written
    g.K.Sink.faults (map string_bytes c.args.words.now) c.args.src.now c.answer.new.src c.args.out.now
    c.answer.new.out c.answer.ensures.0 c.answer.new.kept c.answer.result c.answer.ensures.1 c.answer.ensures.2

pub returns-clause-checked : goal.returns-clause-checked
returns-clause-checked g c =
    is_checked_trace g.K.Sink.written g.K.Sink.faults (map string_bytes c.args.words.now) c.args.out.now
    c.answer.new.out c.answer.ensures.0 c.answer.result c.answer.ensures.2 c.answer.ensures.3
