use Rattle.std.proofs.Common.{rules}
use Rattle.hop_reliable.proofs.heard.heard_number.Goals as goal

pub returns-else-id-last-clause-heard : goal.returns-else-id-last-clause-heard
returns-else-id-last-clause-heard c = search (rules)

pub returns-else-id-last-clause-next : goal.returns-else-id-last-clause-next
returns-else-id-last-clause-next c = search (rules)
