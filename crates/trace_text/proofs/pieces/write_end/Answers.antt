use Rattle.std.proofs.Common.{◌∙◌, subst}
use Rattle.ason_base.proofs.Results.{on_err}
use Rattle.trace_text.specs.Written.{AppendsPart}
use Rattle.trace_text.proofs.pieces.write_end.Goals as goal

pub returns-clause-part : goal.returns-clause-part
returns-clause-part g c =
    on_err c.write_piece.result _ _
    (subst (AppendsPart (g.K.Sink.written c.args.out.now) (g.K.Sink.written c.write_piece.new.out))
    (c.deref.ensures.value ∙ c.in_ok-text.ensures))
    c.write_piece.ensures.part
