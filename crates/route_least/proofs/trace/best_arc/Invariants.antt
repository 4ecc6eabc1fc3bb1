use Rattle.std.proofs.Common.{take}
use Rattle.route_least.proofs.BestArc.{IsBestOfArcs}
use Rattle.route_least.proofs.trace.best_arc.Given as goal

abbrev pub invariant-loop-arc : goal.invariant-loop-arc
invariant-loop-arc l = IsBestOfArcs l.closed l.costs l.marks l.cost (take l.arc-index l.arc-items) l.best
