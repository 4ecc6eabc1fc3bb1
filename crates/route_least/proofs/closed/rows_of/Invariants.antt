use Rattle.std.specs.List.{Contains}
use Rattle.route_least.specs.Bans.{AreRowsWith}
use Rattle.route_least.proofs.closed.rows_of.Given as goal

abbrev pub invariant-loop-row : goal.invariant-loop-row
invariant-loop-row l = AreRowsWith (λ row. Contains l.links row.link) l.rows l.row-index l.closed.items
