-- The legs of backups record the risks of the working LSPs that they guard.
use Rattle.std.proofs.{Common.{◌≡◌, ℕ, true, List, sym, ap, ◌∙◌, subst, inl, inr}, lemmas.List.Elements.All-from_recursion}
use Rattle.std.specs.Prelude.{Option, Some, None}
use Rattle.ason_base.specs.{Network.Network, Risks.route_risks, declared.ids.Lsp.Lsp, declared.ids.NodeId.NodeId, declared.steps.Step.Step, declared.messages.PathRole.PathRole, declared.messages.PathRole.TheVariants.{Work, Back}, declared.tables.Leg.Leg}
use Rattle.ason_base.specs.declared.calls.Role.TheVariants as role
use Rattle.ason_base.proofs.JoinedEnds.{same-node}
use Rattle.mesh_rules.specs.{declared.events.MeshEvent.MeshEvent, Commands.is_searchable, Machine.{Mesh, start}, Events.{after, route_of}, Pairs.beside_lsp}
use Rattle.mesh_rules.proofs.Topologies.{topology_searchable}
use Rattle.lsp_laws.specs.{HopLaw.leg_at, RiskLaw.{EveryBackupRecordsItsRisks, RecordsRisks, rows_of}}
use Rattle.mesh_nodes.proofs.LegList.{all-found}
use Rattle.lsp_laws.proofs.{nodes.Facts.MeshFacts, nodes.NodeRuns.facts-hold, hops.Plans.{Plan, plan, node_at}, hops.Purposes.{Purpose, Carries, Guards, Tells, purpose_role}, hops.Chain.{LegFitsPlan, RisksFit}, hops.Planned.{Follows, IsGuarded}, hops.HopLaws.follows}

module _ (t : Network) (events : List MeshEvent) (searchable : is_searchable t ≡ true) where
  abbrev s : Mesh
  s = after t start events

  -- the leg of a backup, whose purpose is the LSP's
  told : (q : Purpose) (g : Leg) (r : PathRole) → purpose_role q ≡ role.Back → Tells q r →
      IsGuarded (route_of t start events) g.lsp q → RisksFit t q g.risks → RecordsRisks t events g r
  told Carries g r back tells guards risks = absurd (cc back)
  told (Guards w route) g (Work guard) back tells guards risks = absurd tells
  told (Guards w route) g (Back active work primary) back tells guards risks = record {
    sent = ap (λ n. route_of t start events (beside_lsp g.lsp n)) tells.0 ∙ guards ∙ ap Some (sym tells.1);
    risks = risks searchable ∙ ap (route_risks (rows_of t)) (sym tells.1);
  }

  at_place : (l : Lsp) (q : Purpose) (p : Plan) (i : ℕ) (g : Leg) → LegFitsPlan t q l p i g → g.role ≡ role.Back →
      IsGuarded (route_of t start events) l q → RecordsRisks t events g g.path_role
  at_place l q p i g fits back guards =
      told q g g.path_role (sym fits.role ∙ back) fits.tells
      (subst (λ k. IsGuarded (route_of t start events) k q) (sym fits.own) guards) fits.risks

  records : (l : Lsp) (n : NodeId) (g : Leg) (c : Option (List Step)) → Follows t s (route_of t start events) l c →
      leg_at s l n ≡ Some g → g.role ≡ role.Back → RecordsRisks t events g g.path_role
  records l n g None f here back = absurd (let none = f.legs n in cc (none, here))
  records l n g (Some route) (e, q, pl) here back =
      elim (pl.chain.legs n) [
        | inl none ↦ absurd (cc (none, here))
        | inr (i, small, at_n) ↦ (let is = same-node n (node_at (plan route e) i) at_n in
            let there : leg_at s l (node_at (plan route e) i) ≡ Some g = rw (← is) here in
            let fits : LegFitsPlan t q l (plan route e) i g = rw there at (pl.chain.fits i small) in
            at_place l q (plan route e) i g fits back pl.guards)
      ]

pub every_backup_records : EveryBackupRecordsItsRisks
every_backup_records t events valid run n =
    let s : Mesh = after t start events in
    let facts : MeshFacts t s = facts-hold t events run in
    All-from_recursion (λ g. g.role ≡ role.Back → RecordsRisks t events g g.path_role) (s.nodes n).legs
    (all-found (λ g. g.role ≡ role.Back → RecordsRisks t events g g.path_role) (s.nodes n).legs (facts.node n).legs_rise
    (λ l g found back. records t events (topology_searchable t valid) l (record { 0 = n }) g
    (route_of t start events l) (follows t events run l) found back))
