use Rattle.std.proofs.Common.{take}
use Rattle.route_least.specs.Potentials.{AreListed}
use Rattle.route_least.proofs.potentials.potentials_of.Given as goal

abbrev pub invariant-loop-entry : goal.invariant-loop-entry
invariant-loop-entry l = AreListed (take l.entry-index l.order) l.costs l.potentials
