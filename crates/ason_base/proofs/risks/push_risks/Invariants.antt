use Rattle.std.proofs.Common.{◌≡◌, ◌++◌, map, take}
use Rattle.ason_base.specs.declared.risks.Risk.TheVariants.{Srlg}
use Rattle.ason_base.proofs.risks.push_risks.Given as goal

abbrev pub invariant-loop-srlg : goal.invariant-loop-srlg
invariant-loop-srlg l = l.risks.items ≡ l.initial.risks.items ++ map Srlg (take l.srlg-index l.srlg-items)
