use Rattle.std.proofs.Common.{◌≡◌, take}
use Rattle.round_rules.specs.Lines.{says}
use Rattle.station.proofs.lines.says.Given as goal

abbrev pub invariant-loop-line : goal.invariant-loop-line
invariant-loop-line l = l.said ≡ says (take l.line-index l.lines) l.from l.to l.number
