use Rattle.std.proofs.Common.{rules}
use Rattle.wire_buf.proofs.routes.step_of.Goals as goal

pub returns : goal.returns
returns c = search (rules)
