use Rattle.route_least.specs.Network.{AreNumbered}
use Rattle.route_least.proofs.order.entries_of.Given as goal

abbrev pub invariant-loop-place : goal.invariant-loop-place
invariant-loop-place l = AreNumbered l.places l.place l.entries.items
