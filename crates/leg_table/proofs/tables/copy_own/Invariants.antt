use Rattle.std.proofs.Common.{◌≡◌, take}
use Rattle.std.specs.Prelude.{filter}
use Rattle.ason_base.specs.Network.{touches}
use Rattle.leg_table.proofs.tables.copy_own.Given as goal

abbrev pub invariant-loop-link : goal.invariant-loop-link
invariant-loop-link l = l.own.items ≡ filter (touches l.n) (take l.link-index l.links)
