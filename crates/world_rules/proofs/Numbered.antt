-- The nodes of a topology are listed by number, as in mesh_laws.
use Rattle.std.proofs.Common.{ℕ, List}
use Rattle.ason_base.specs.{declared.network.NodeSpec.NodeSpec, Network.{IsTopology, Network}}
use Rattle.mesh_laws.proofs.Numbered as numbered

-- each has a greater number than the one before
abbrev pub NodesRiseAbove : ℕ → List NodeSpec → Type 0
NodesRiseAbove n nodes = numbered.NodeIdsRise n nodes

pub rises : (t : Network) → IsTopology t → NodesRiseAbove 0 t.nodes
rises t is = numbered.rises t is
