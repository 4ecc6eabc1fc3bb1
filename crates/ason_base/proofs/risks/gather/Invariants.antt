use Rattle.std.proofs.Common.{take}
use Rattle.ason_base.proofs.RiskUnion.{AreRisks}
use Rattle.ason_base.proofs.risks.gather.Given as goal

abbrev pub invariant-loop-row : goal.invariant-loop-row
invariant-loop-row l = AreRisks (take l.row-index l.rows) l.route l.risks.items
