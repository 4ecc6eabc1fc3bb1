use Rattle.std.proofs.Common.{◌≡◌, take}
use Rattle.std.specs.{Prelude.filter, List.flat_map}
use Rattle.ason_base.specs.Network.{touches}
use Rattle.link_owner.specs.Marks.{dark_fibres}
use Rattle.link_owner.proofs.owner.dark_fibres.Given as goal

abbrev pub invariant-loop-link : goal.invariant-loop-link
invariant-loop-link l = l.marks.items ≡ flat_map dark_fibres (filter (touches l.node) (take l.link-index l.link-items))
