-- The fibres by which a node's legs come in, and on which they take what comes back, are its owner's.
use Rattle.std.proofs.Common.{◌≡◌, true}
use Rattle.std.specs.Prelude.{Some, IsTrue}
use Rattle.ason_base.specs.{declared.ids.LinkId.LinkId, declared.ids.Lsp.Lsp, declared.ids.NodeId.NodeId, declared.network.LinkSpec.LinkSpec, declared.tables.Leg.Leg, Network.other_end}
use Rattle.ason_base.proofs.Options.{some-of}
use Rattle.mesh_rules.specs.{declared.neighbours.Neighbour.Neighbour, Legs.{find_leg, previous, reverse}, LocalNodes.{LocalNode, fibre_in, fibre_out, leads, own_link}}
use Rattle.mesh_nodes.specs.{FitNodes.LegFits, LocalNodes.{LocalNodeFits, is_upstream}}
use Rattle.mesh_nodes.proofs.{LegList.found-all, Links.{end-downstream, sender-upstream}}
use Rattle.leg_table.specs.{Fits.OwnLegsFit, LegClaims.is_fibre_in, States.local_of, Tables.LegTable}
use Rattle.leg_table.proofs.OwnFibres.{downstream-fibre_in, upstream-fibre_in}

-- the fibre by which a message came that its sender's link leads on
pub sender-fibre_in : (t : LegTable) (k : LinkId) (l : LinkSpec) (u : NodeId) → LocalNodeFits (local_of t) →
    own_link (local_of t) k ≡ Some l → leads (Some l) u t.node.id ≡ true →
    is_fibre_in (local_of t) (fibre_in l t.node.id) ≡ true
sender-fibre_in t k l u links own led =
    upstream-fibre_in (local_of t) (record { node = u; fibre = fibre_in l t.node.id })
    (sender-upstream (local_of t) k l u links own led)

-- the fibre by which a leg comes in
pub previous-fibre_in : (t : LegTable) (l : Lsp) (g : Leg) (h : Neighbour) → OwnLegsFit t →
    find_leg l t.legs ≡ Some g → previous g ≡ Some h → is_fibre_in (local_of t) h.fibre ≡ true
previous-fibre_in t l g h legs found before =
    let next = legs.0 in
    let here : LegFits (local_of t) next g = found-all (LegFits (local_of t) next) l t.legs g found legs.2.each in
    upstream-fibre_in (local_of t) h
    (some-of (λ k. IsTrue (is_upstream (local_of t) k)) (previous g) h before here.upstream)

-- the other direction of a fibre that goes out over a link of the node
pub out-comes_back : (p : LocalNode) (k : LinkId) (out : LinkSpec) → LocalNodeFits p → own_link p k ≡ Some out →
    is_fibre_in p (reverse (fibre_out out p.id)) ≡ true
out-comes_back p k out links own =
    downstream-fibre_in p (record { node = other_end out p.id; fibre = fibre_out out p.id }) links
    (end-downstream p k out own)
