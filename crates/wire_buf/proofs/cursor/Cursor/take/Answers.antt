use Rattle.std.proofs.Common.{rules}
use Rattle.wire_buf.proofs.cursor.Cursor.take.Goals as goal

pub returns-clause-value : goal.returns-clause-value
returns-clause-value c = search (rules)

pub returns-clause-left : goal.returns-clause-left
returns-clause-left c = search (rules)
