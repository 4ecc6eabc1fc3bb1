use Rattle.fleet.proofs.fleet.Fleet.end.Given as goal

abbrev pub decreases-loop-station : goal.decreases-loop-station
decreases-loop-station g l = goal.left-loop-station g l
