use Rattle.std.proofs.Common.{◌≡◌, map, take}
use Rattle.ason_base.specs.Network.{row_of}
use Rattle.ason_base.proofs.network.rows_of.Given as goal

abbrev pub invariant-loop-link : goal.invariant-loop-link
invariant-loop-link l = l.rows.items ≡ map row_of (take l.link-index l.links)
