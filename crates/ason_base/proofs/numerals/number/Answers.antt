use Rattle.ason_base.proofs.ParsedNumerals.{not_parsed, parsed, utf8_numeral}
use Rattle.ason_base.proofs.numerals.number.Goals as goal

pub returns-in-Err : goal.returns-in-Err
returns-in-Err c = absurd (c.in-Err.ensures.cases.0 (utf8_numeral c.args.word.now c.requires))

pub returns-in-Ok-parse : goal.returns-in-Ok-parse
returns-in-Ok-parse c =
    parsed c.args.word.now c.in-Ok-parse.n c.parse.result c.requires
    (rw c.in-Ok.ensures.cases.0 at c.parse.ensures.value.0) c.in-Ok-parse.is

pub returns-in-Err-parse : goal.returns-in-Err-parse
returns-in-Err-parse c =
    not_parsed c.args.word.now c.parse.result c.in-Err-parse.field-0 c.requires
    (rw c.in-Ok.ensures.cases.0 at c.parse.ensures.value.0) c.in-Err-parse.is
