use Rattle.std.proofs.Common.{◌∙◌, sym}
use Rattle.message_text.proofs.HexLines.{no_newline, to_newline, to_the_end}
use Rattle.message_text.proofs.first_line.Goals as goal

pub returns-in-None-clause-lines : goal.returns-in-None-clause-lines
returns-in-None-clause-lines c = no_newline c.args.bytes.now (sym c.in-None.ensures)

pub returns-in-Some-clause-lines : goal.returns-in-Some-clause-lines
returns-in-Some-clause-lines c =
    let bytes = c.args.bytes.now in
    to_newline bytes c.in-Some.end (sym c.in-Some.ensures) ∙ to_the_end bytes c.in-Some.end
