-- In every state of every run a node knows just of fibres that come in there whether they are down.
use Rattle.std.specs.Prelude.{List, IsTrue, All}
use Rattle.ason_base.specs.{declared.ids.Fibre.Fibre, declared.ids.NodeId.NodeId, Network.Network}
use Rattle.mesh_rules.specs.{declared.events.MeshEvent.MeshEvent, Alarms.enters, LocalNodes.{LocalNode, local_node, own_link}, Machine.{Mesh, start}, Events.{IsRun, after}}

-- the fibre is of an own link of p, and leads to p
abbrev pub ComesIn : LocalNode → Fibre → Type 0
ComesIn p f = IsTrue (enters p f (own_link p f.link))

-- each fibre that a node knows to be down
abbrev pub KnownFibresComeIn : Network → Mesh → Type 0
KnownFibresComeIn t s = (n : NodeId) → All (ComesIn (local_node t n)) (s.nodes n.0).down

-- over every network and every run
abbrev pub EveryKnownFibreComesIn : Type 0
EveryKnownFibreComesIn =
    (t : Network) (events : List MeshEvent) → IsRun t start events → KnownFibresComeIn t (after t start events)
