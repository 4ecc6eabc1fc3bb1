use Rattle.route_pair.specs.Closed.{AreSrlgsOf}
use Rattle.route_pair.proofs.bans.srlgs_of.Given as goal

abbrev pub invariant-loop-place : goal.invariant-loop-place
invariant-loop-place l = AreSrlgsOf l.rows l.used l.place l.srlgs.items
