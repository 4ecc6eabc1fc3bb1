use Rattle.std.proofs.Common.{take}
use Rattle.route_least.proofs.Relaxed.{IsRelaxing}
use Rattle.route_least.proofs.costs.relax.Given as goal

abbrev pub invariant-loop-arc : goal.invariant-loop-arc
invariant-loop-arc l =
    IsRelaxing l.places l.closed l.banned l.place l.cost l.initial.costs l.initial.lowered
    (take l.arc-index l.arc-items) l.costs l.lowered l.changed
