-- A leg at a node that doesn't convert has one label each way, and a label that it takes is one of its link's.
use Rattle.std.proofs.{Common.{◌≡◌, List, inl, inr}, lemmas.List.Elements.All-from_recursion}
use Rattle.std.specs.Prelude.{Option, Some, None}
use Rattle.ason_base.specs.{Network.Network, declared.ids.Lsp.Lsp, declared.ids.NodeId.NodeId, declared.steps.Step.Step, declared.tables.Leg.Leg}
use Rattle.ason_base.proofs.JoinedEnds.{same-node}
use Rattle.mesh_rules.specs.{declared.events.MeshEvent.MeshEvent, LocalNodes.local_node, Machine.{Mesh, start}, Events.{after, route_of}}
use Rattle.lsp_laws.specs.{HopLaw.leg_at, LabelLaw.{EveryLegKeepsLabels, KeepsLabels}}
use Rattle.mesh_nodes.proofs.LegList.{all-found}
use Rattle.lsp_laws.proofs.{nodes.Facts.MeshFacts, nodes.NodeRuns.facts-hold, hops.Plans.{plan, node_at}, hops.Chain.LegFitsPlan, hops.Planned.Follows, hops.HopLaws.follows}

module _ (t : Network) (events : List MeshEvent) where
  abbrev s : Mesh
  s = after t start events

  -- a leg of any LSP, at any node
  pub keeps : (l : Lsp) (n : NodeId) (g : Leg) (c : Option (List Step)) → Follows t s (route_of t start events) l c →
      leg_at s l n ≡ Some g → KeepsLabels (local_node t n) g
  keeps l n g None f here = absurd (let none = f.legs n in cc (none, here))
  keeps l n g (Some route) (e, q, pl) here =
      elim (pl.chain.legs n) [
        | inl none ↦ absurd (cc (none, here))
        | inr (i, small, at_n) ↦ (let is = same-node n (node_at (plan route e) i) at_n in
            let there : leg_at s l (node_at (plan route e) i) ≡ Some g = rw (← is) here in
            let fits : LegFitsPlan t q l (plan route e) i g = rw there at (pl.chain.fits i small) in
            rw is fits.labels)
      ]

pub every_leg_keeps : EveryLegKeepsLabels
every_leg_keeps t events run n =
    let s : Mesh = after t start events in
    let facts : MeshFacts t s = facts-hold t events run in
    All-from_recursion (KeepsLabels (local_node t n)) (s.nodes n.0).legs
    (all-found (KeepsLabels (local_node t n)) (s.nodes n.0).legs (facts.node n.0).legs_rise
    (λ l g found. keeps t events l n g (route_of t start events l) (follows t events run l) found))
