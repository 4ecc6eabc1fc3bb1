-- What a node learns it knows.
use Rattle.std.specs.{Prelude.{◌≡◌, ◌++◌, List, IsTrue}, List.Contains}
use Rattle.ason_base.specs.{declared.ids.LinkId.LinkId, declared.ids.NodeId.NodeId, declared.network.LinkSpec.LinkSpec, declared.network.TeRow.TeRow, Network.{Network, row_of}}
use Rattle.mesh_rules.specs.{declared.events.MeshEvent.MeshEvent, declared.events.MeshEvent.TheVariants.Learn, Events.{IsRun, after, may_learn, step}, KnownRows.known_rows, LocalNodes.local_node, Machine.{Mesh, start}}

-- the node knows the row of a link of the network that has this number
pub record KnowsLink (t : Network) (s : Mesh) (n : NodeId) (k : LinkId) : Type 0 where
  pub link : LinkSpec
  pub number : link.id ≡ k
  pub there : Contains t.links link
  pub known : Contains (known_rows (local_node t n) (s.nodes n.0)) (row_of link)

-- What becomes known comes behind what the node knew.
abbrev pub KnowsMore : Network → Mesh → Mesh → NodeId → Type 0
KnowsMore t s s' n =
    (rows : List TeRow) ×
    (known_rows (local_node t n) (s'.nodes n.0) ≡ known_rows (local_node t n) (s.nodes n.0) ++ rows)

-- over the event in which a node learns of a link that a neighbour knows
abbrev pub LearntLinkIsKnown : Network → List MeshEvent → Type 0
LearntLinkIsKnown t events =
    (n : NodeId) (k : LinkId) →
    IsTrue (may_learn t (after t start events) n k) →
    KnowsLink t (step t (after t start events) (Learn n k)) n k
    × KnowsMore t (after t start events) (step t (after t start events) (Learn n k)) n

-- over every network and every run
abbrev pub EveryLearntIsKnown : Type 0
EveryLearntIsKnown =
    (t : Network) (events : List MeshEvent) → IsRun t start events → LearntLinkIsKnown t events
