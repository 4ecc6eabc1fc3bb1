use Rattle.std.proofs.Common.{ℕ, ◌<◌}
use Rattle.route_least.specs.Network.{HasNode}
use Rattle.route_least.proofs.places.place_of.Given as goal

abbrev pub invariant-loop-index : goal.invariant-loop-index
invariant-loop-index l = (p : ℕ) → p < l.index → ¬ HasNode l.places p l.node
