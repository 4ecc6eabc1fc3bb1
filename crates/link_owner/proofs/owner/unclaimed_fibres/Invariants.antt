use Rattle.std.proofs.Common.{◌≡◌, map, take}
use Rattle.std.specs.Prelude.{filter}
use Rattle.ason_base.specs.Network.{touches}
use Rattle.link_owner.specs.Owners.{fibre_unclaimed}
use Rattle.link_owner.proofs.owner.unclaimed_fibres.Given as goal

abbrev pub invariant-loop-link : goal.invariant-loop-link
invariant-loop-link l = l.fibres.items ≡ map (fibre_unclaimed l.node)
    (filter (touches l.node) (take l.link-index l.link-items))
