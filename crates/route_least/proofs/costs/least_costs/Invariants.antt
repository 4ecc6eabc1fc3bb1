use Rattle.std.proofs.Common.{length, sum_by}
use Rattle.route_least.specs.{Costs.height, Network.Goes}
use Rattle.route_least.proofs.Passed.{IsCostTable}
use Rattle.route_least.proofs.costs.least_costs.Given as goal

abbrev pub invariant-loop : goal.invariant-loop
invariant-loop l = IsCostTable (Goes l.places l.closed l.banned) l.start (length l.places) l.costs.items l.lowered.items

abbrev pub decreases-loop : goal.decreases-loop
decreases-loop l = sum_by height l.costs.items
