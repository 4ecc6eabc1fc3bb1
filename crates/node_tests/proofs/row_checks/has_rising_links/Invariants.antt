use Rattle.route_pair.proofs.TestRows.{LinksRise}
use Rattle.node_tests.proofs.row_checks.has_rising_links.Given as goal

abbrev pub invariant-loop-place : goal.invariant-loop-place
invariant-loop-place l = LinksRise l.rows l.place
