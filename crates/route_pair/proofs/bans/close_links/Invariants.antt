use Rattle.route_pair.specs.Closed.{AreClosedToo, RowHasLink}
use Rattle.route_pair.proofs.bans.close_links.Given as goal

abbrev pub invariant-loop-place : goal.invariant-loop-place
invariant-loop-place l = AreClosedToo l.rows (RowHasLink l.links) l.place l.initial.closed l.closed
