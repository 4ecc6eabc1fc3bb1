use Rattle.route_least.specs.Network.{Goes}
use Rattle.route_least.proofs.Passed.{IsPassing}
use Rattle.route_least.proofs.costs.pass.Given as goal

abbrev pub invariant-loop-place : goal.invariant-loop-place
invariant-loop-place l = IsPassing (Goes l.places l.closed l.banned) l.initial.costs l.initial.lowered l.place
    l.costs l.lowered l.changed
