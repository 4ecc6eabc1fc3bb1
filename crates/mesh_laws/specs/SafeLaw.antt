-- In every state of every run no wavelength of a fibre is cross-connected for two LSPs.
use Rattle.std.specs.{Prelude.{◌≡◌, ◌⊎◌, ℕ, List, Option, Some, None, IsTrue}, List.Contains}
use Rattle.ason_base.specs.{declared.ids.Fibre.Fibre, declared.ids.NodeId.NodeId, declared.calls.Phase.TheVariants.Live, declared.tables.Leg.Leg, Network.{Network, receiver_of, sender_of}}
use Rattle.mesh_rules.specs.{declared.events.MeshEvent.MeshEvent, Legs.{sends_label, takes}, Machine.{Mesh, start}, Events.{IsRun, after}}

-- the leg is one of this node's
abbrev pub LegStandsAt : Mesh → Option NodeId → Leg → Type 0
LegStandsAt s None g = ⊥
LegStandsAt s (Some n) g = Contains (s.nodes n.0).legs g

-- A Live leg has this label of this fibre: it takes it at the node into which the fibre leads, or sends it at the node
-- from which it leads, on the way there or on the way back.
pub record Connects (t : Network) (s : Mesh) (f : Fibre) (x : ℕ) (g : Leg) : Type 0 where
  pub live : g.phase ≡ Live
  pub at_an_end :
      (LegStandsAt s (receiver_of t f) g × IsTrue (takes f x g))
      ⊎ (LegStandsAt s (sender_of t f) g × IsTrue (sends_label f x g))

-- all that is connected for one label of one fibre is of one LSP
abbrev pub IsSafe : Network → Mesh → Type 0
IsSafe t s = (f : Fibre) (x : ℕ) (g h : Leg) → Connects t s f x g → Connects t s f x h → g.lsp ≡ h.lsp

abbrev pub EveryRunIsSafe : Type 0
EveryRunIsSafe = (t : Network) (events : List MeshEvent) → IsRun t start events → IsSafe t (after t start events)
