-- Light: over no fibre is one label that of two circuits, and each label is one of its link's. In words of legs alone.
use Rattle.std.specs.{Prelude.{◌≡◌, ◌≤◌, ◌⊎◌, ℕ, List}, List.Contains}
use Rattle.ason_base.specs.{declared.calls.Phase.TheVariants.Live, declared.ids.Fibre.Fibre, declared.ids.NodeId.NodeId, declared.network.LinkSpec.LinkSpec, declared.tables.Leg.Leg, Network.{Network, receiver_of, sender_of}}
use Rattle.mesh_rules.specs.{declared.events.MeshEvent.MeshEvent, Events.{IsRun, after}, Machine.{Mesh, start}}
use Rattle.mesh_laws.specs.{CauseLaw.IsLinkAt, RestedLaw.{Arrives, Leaves}, SafeLaw.LegStandsAt}

-- a Live leg has light of this label on this fibre: it arrives at the leg where the fibre ends, or leaves it where the
-- fibre begins
pub record IsLit (t : Network) (s : Mesh) (f : Fibre) (x : ℕ) (g : Leg) : Type 0 where
  pub live : g.phase ≡ Live
  pub at_an_end : (LegStandsAt s (receiver_of t f) g × Arrives f x g) ⊎ (LegStandsAt s (sender_of t f) g × Leaves f x g)

-- all light of one label on one fibre is of one LSP
abbrev pub LightIsOfOneLsp : Network → List MeshEvent → Type 0
LightIsOfOneLsp t events =
    (f : Fibre) (x : ℕ) (g h : Leg) → IsLit t (after t start events) f x g → IsLit t (after t start events) f x h →
    g.lsp ≡ h.lsp

-- over every network and every run
abbrev pub EveryLightIsOfOneLsp : Type 0
EveryLightIsOfOneLsp = (t : Network) (events : List MeshEvent) → IsRun t start events → LightIsOfOneLsp t events

-- the label of the light that arrives at a leg is one of the link's, which the node has
abbrev pub LabelsAreOfLinks : Network → List MeshEvent → Type 0
LabelsAreOfLinks t events =
    (n : NodeId) (g : Leg) (f : Fibre) (x : ℕ) → Contains ((after t start events).nodes n.0).legs g → Arrives f x g →
    (link : LinkSpec) × IsLinkAt t n f.link link × (1 ≤ x) × (x ≤ link.labels)

-- over every network and every run
abbrev pub EveryLabelIsOfItsLink : Type 0
EveryLabelIsOfItsLink = (t : Network) (events : List MeshEvent) → IsRun t start events → LabelsAreOfLinks t events
