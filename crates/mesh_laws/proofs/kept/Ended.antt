-- The end of a run: what holds of the mesh then, and of the hops of each LSP.
use Rattle.std.proofs.Common.{ℕ, List}
use Rattle.ason_base.specs.{Network.Network, declared.ids.Lsp.Lsp}
use Rattle.mesh_rules.specs.{declared.events.MeshEvent.MeshEvent, Events.{IsRun, after, route_of}, Machine.start, Quiet.IsQuiet}
use Rattle.lsp_laws.specs.HopLaw.{LspFits}
use Rattle.lsp_laws.proofs.{hops.HopLaws.every_hop, nodes.Facts.MeshFacts, nodes.NodeRuns.facts-hold}
use Rattle.mesh_laws.proofs.{kept.Phases.LegsUp, kept.Places.legs-are-up}

-- the facts of the mesh, how the legs of each LSP fit its route, and that each leg is up
pub record Ended (t : Network) (events : List MeshEvent) : Type 0 where
  pub facts : MeshFacts t (after t start events)
  pub hops : (l : Lsp) → LspFits t (after t start events) l (route_of t start events l)
  pub up : (n : ℕ) → LegsUp ((after t start events).nodes n).legs

-- A run that ends where nothing is under way ends so.
pub ended : (t : Network) (events : List MeshEvent) → IsRun t start events → IsQuiet (after t start events) →
    Ended t events
ended t events run quiet =
    let facts = facts-hold t events run in
    let hops = (every_hop t events run).1 in
    record {
      facts = facts;
      hops = hops;
      up = λ n. legs-are-up t (after t start events) quiet (route_of t start events) hops n (facts.node n).legs_rise;
    }
