-- What a node learnt of links that aren't its own.
use Rattle.std.specs.Prelude.{ℕ, List}
use Rattle.ason_base.specs.{declared.ids.NodeId.NodeId, Network.{IsTopology, Network}}
use Rattle.mesh_rules.specs.{declared.events.MeshEvent.MeshEvent, LocalNodes.local_node, Machine.{Mesh, start}, Events.{IsRun, after}}
use Rattle.mesh_nodes.specs.Routes.{AreRowsOf, RowsFit}

-- at each node rows of links of the network
abbrev pub LearntRowsAreTrue : Network → Mesh → Type 0
LearntRowsAreTrue t s = (n : ℕ) → AreRowsOf t (s.nodes n).learnt

-- in each state of each run
abbrev pub EveryLearntRowIsTrue : Type 0
EveryLearntRowIsTrue = (t : Network) (events : List MeshEvent) → IsRun t start events →
    LearntRowsAreTrue t (after t start events)

-- over a topology routes can be asked of what a node knows, and it learnt no row of a link of its own
abbrev pub EveryNodeCanSearch : Type 0
EveryNodeCanSearch =
    (t : Network) (events : List MeshEvent) (n : NodeId) → IsTopology t → IsRun t start events →
    RowsFit (local_node t n) ((after t start events).nodes n.0)
