use Rattle.route_pair.specs.Closed.{AreClosedToo, HasOneSrlg}
use Rattle.route_pair.proofs.bans.close.Given as goal

abbrev pub invariant-loop-place : goal.invariant-loop-place
invariant-loop-place l = AreClosedToo l.rows (λ row. HasOneSrlg row l.srlgs) l.place l.initial.closed l.closed
