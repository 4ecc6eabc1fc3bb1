use Rattle.std.proofs.Common.{take}
use Rattle.survey.specs.Index.{IsLegIndexOf}
use Rattle.survey.proofs.index.index_of.Given as goal

abbrev pub invariant-loop-row : goal.invariant-loop-row
invariant-loop-row l = IsLegIndexOf (take l.row-index l.legs) l.index
