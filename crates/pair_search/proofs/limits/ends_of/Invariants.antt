use Rattle.std.proofs.Common.{◌≡◌, [], take}
use Rattle.std.specs.Prelude.{fold}
use Rattle.pair_search.specs.Searches.{with_end_nodes}
use Rattle.pair_search.proofs.limits.ends_of.Given as goal

abbrev pub invariant-loop-row : goal.invariant-loop-row
invariant-loop-row l = l.ends.items ≡ fold with_end_nodes [] (take l.row-index l.rows)
