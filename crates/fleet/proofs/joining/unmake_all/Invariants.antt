use Rattle.fleet.specs.Views.{AreUnwatched}
use Rattle.fleet.proofs.joining.unmake_all.Given as goal

abbrev pub invariant-loop-station : goal.invariant-loop-station
invariant-loop-station l = AreUnwatched l.stations.items

abbrev pub decreases-loop-station : goal.decreases-loop-station
decreases-loop-station l = goal.left-loop-station l
