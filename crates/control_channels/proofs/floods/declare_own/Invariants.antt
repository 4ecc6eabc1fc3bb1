use Rattle.std.proofs.Common.{◌≡◌, map, take}
use Rattle.ason_base.specs.Network.{row_of}
use Rattle.flood.specs.Networks.{declared_rows, new_flood, nodes_beside, own_rows}
use Rattle.control_channels.proofs.floods.declare_own.Given as goal

abbrev pub invariant-loop-link : goal.invariant-loop-link
invariant-loop-link l =
    l.flood ≡ declared_rows (new_flood l.n (nodes_beside (map row_of l.links) l.n))
    (own_rows (map row_of (take l.link-index l.links)) l.n)
