-- A link that is found has 80 labels at most.
use Rattle.std.proofs.Common.{◌≡◌, ◌≤◌, sym}
use Rattle.std.specs.Prelude.{IfSome, None, Option, Some}
use Rattle.ason_base.specs.{declared.limits.TheConstants.MOST_LABELS, declared.ids.LinkId.LinkId, declared.network.LinkSpec.LinkSpec}
use Rattle.mesh_rules.specs.LocalNodes.{LocalNode, own_link}
use Rattle.mesh_nodes.specs.LocalNodes.{LocalNodeFits}
use Rattle.mesh_nodes.proofs.Links.{own-is}

pub own-narrow : (p : LocalNode) (k : LinkId) (o : Option LinkSpec) → LocalNodeFits p → o ≡ own_link p k →
    IfSome o (λ l. l.labels ≤ MOST_LABELS)
own-narrow p k None fits is = tt
own-narrow p k (Some l) fits is = (own-is p k l fits (sym is)).narrow
