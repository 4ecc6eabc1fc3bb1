use Rattle.std.proofs.Common.{rules}
use Rattle.te_tlv.proofs.reading.link.Goals as goal

pub returns-then-read_u32-local-clause-found : goal.returns-then-read_u32-local-clause-found
returns-then-read_u32-local-clause-found c = search (rules)
