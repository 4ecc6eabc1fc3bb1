-- The route of a backup stands beside that of the working LSP that it guards.
use Rattle.std.proofs.{Common.{◌≡◌, List, refl, sym, ap, ◌∙◌, subst, inl, inr}, lemmas.List.Elements.All-from_recursion}
use Rattle.std.specs.Prelude.{ℕ, Option, Some, None}
use Rattle.ason_base.specs.{Network.Network, declared.ids.Lsp.Lsp, declared.ids.NodeId.NodeId, declared.steps.Step.Step, declared.messages.PathRole.PathRole, declared.messages.PathRole.TheVariants.{Work, Back}, declared.tables.CallRec.CallRec, declared.tables.Leg.Leg}
use Rattle.ason_base.specs.declared.calls.Role.TheVariants as role
use Rattle.ason_base.proofs.JoinedEnds.{same-node}
use Rattle.mesh_rules.specs.{declared.events.MeshEvent.MeshEvent, Legs.find_leg, Machine.{Mesh, start}, Events.{IsRun, after, route_of}, Pairs.beside_lsp}
use Rattle.lsp_laws.specs.{BesideLaw.{CallGoesBeside, EveryBackupGoesBeside, GoBeside, LegGoesBeside}, CallLaw.{FitsLegs, GuardsWork}, HopLaw.leg_at}
use Rattle.mesh_nodes.proofs.{CallList.all-calls_found, LegList.{all-found, found-lsp}}
use Rattle.lsp_laws.proofs.{nodes.Facts.MeshFacts, nodes.NodeRuns.facts-hold, hops.Plans.{Plan, plan, node_at}, hops.Purposes.{Purpose, Carries, Guards, Tells, purpose_role}, hops.Chain.LegFitsPlan, hops.Planned.{Follows, IsGuarded, StandsBeside}, hops.HopLaws.follows, hops.NamedPhases.named_is}

module _ (t : Network) (events : List MeshEvent) (run : IsRun t start events) where
  abbrev s : Mesh
  s = after t start events

  -- the leg of a backup, whose purpose is the LSP's
  told : (q : Purpose) (p : Plan) (g : Leg) (r : PathRole) → purpose_role q ≡ role.Back → Tells q r →
      IsGuarded (route_of t start events) g.lsp q → route_of t start events g.lsp ≡ Some p.route →
      g.egress ≡ p.egress → StandsBeside t g.lsp q p → LegGoesBeside t events g r
  told Carries p g r back tells guards sent at_end beside = absurd (cc back)
  told (Guards w route) p g (Work guard) back tells guards sent at_end beside = absurd tells
  told (Guards w route) p g (Back active work primary) back tells guards sent at_end beside = record {
    primary = route;
    backup = p.route;
    work_sent = ap (λ n. route_of t start events (beside_lsp g.lsp n)) tells.0 ∙ guards;
    back_sent = sent;
    beside = rw at_end beside;
  }

  at_place : (l : Lsp) (q : Purpose) (p : Plan) (i : ℕ) (g : Leg) → LegFitsPlan t q l p i g → g.role ≡ role.Back →
      IsGuarded (route_of t start events) l q → route_of t start events l ≡ Some p.route → StandsBeside t l q p →
      LegGoesBeside t events g g.path_role
  at_place l q p i g fits back guards sent beside =
      told q p g g.path_role (sym fits.role ∙ back) fits.tells
      (subst (λ k. IsGuarded (route_of t start events) k q) (sym fits.own) guards)
      (ap (route_of t start events) fits.own ∙ sent) fits.egress
      (subst (λ k. StandsBeside t k q p) (sym fits.own) beside)

  goes : (l : Lsp) (n : NodeId) (g : Leg) (c : Option (List Step)) → route_of t start events l ≡ c →
      Follows t s (route_of t start events) l c → leg_at s l n ≡ Some g → g.role ≡ role.Back →
      LegGoesBeside t events g g.path_role
  goes l n g None is f here back = absurd (let none = f.legs n in cc (none, here))
  goes l n g (Some route) is (e, q, pl) here back =
      elim (pl.chain.legs n) [
        | inl none ↦ absurd (cc (none, here))
        | inr (i, small, at_n) ↦ (let node_is = same-node n (node_at (plan route e) i) at_n in
            let there : leg_at s l (node_at (plan route e) i) ≡ Some g = rw (← node_is) here in
            let fits : LegFitsPlan t q l (plan route e) i g = rw there at (pl.chain.fits i small) in
            at_place l q (plan route e) i g fits back pl.guards is pl.beside)
      ]

  leg_goes : (l : Lsp) (n : ℕ) (g : Leg) → find_leg l (s.nodes n).legs ≡ Some g → g.role ≡ role.Back →
      LegGoesBeside t events g g.path_role
  leg_goes l n g found back =
      goes l (record { 0 = n }) g (route_of t start events l) refl (follows t events run l) found back

  -- the backup of a call guards its working LSP
  with_work : (g : Leg) (r : PathRole) (w b : Lsp) (e : NodeId) → g.lsp ≡ b → g.egress ≡ e → GuardsWork w b r →
      LegGoesBeside t events g r → GoBeside t events e w b
  with_work g (Work guard) w b e own at_end guards beside = absurd guards
  with_work g (Back active work primary) w b e own at_end guards beside =
      let of_work : beside_lsp g.lsp work ≡ w = ap (λ l. beside_lsp l work) own ∙ sym guards in
      subst (λ k. GoBeside t events k w b) at_end
      (subst (λ k. GoBeside t events g.egress k b) of_work
      (subst (λ k. GoBeside t events g.egress (beside_lsp g.lsp work) k) own beside))

  call_goes : (n : ℕ) (c : CallRec) → FitsLegs n (s.nodes n).lsp (s.nodes n).legs c → CallGoesBeside t events c
  call_goes n c fit w b is_work is_back =
      let name = named_is n (s.nodes n).lsp (s.nodes n).legs role.Back c.egress c.back b fit.back is_back in
      let g : Leg = name.leg.0 in
      let found : find_leg b (s.nodes n).legs ≡ Some g = name.leg.1 in
      with_work g g.path_role w b c.egress (found-lsp b (s.nodes n).legs g found) name.leg.3
      (fit.guards w b g is_work is_back found) (leg_goes b n g found name.leg.2)

pub every_backup_beside : EveryBackupGoesBeside
every_backup_beside t events run =
    let s : Mesh = after t start events in
    let facts : MeshFacts t s = facts-hold t events run in
    record {
      legs = λ n. All-from_recursion (λ g. g.role ≡ role.Back → LegGoesBeside t events g g.path_role) (s.nodes n).legs
          (all-found (λ g. g.role ≡ role.Back → LegGoesBeside t events g g.path_role) (s.nodes n).legs
          (facts.node n).legs_rise (λ l g found back. leg_goes t events run l n g found back));
      calls = λ n. All-from_recursion (CallGoesBeside t events) (s.nodes n).calls
          (all-calls_found (CallGoesBeside t events) (s.nodes n).calls (facts.node n).calls_rise
          (λ k c found. call_goes t events run n c ((facts.node n).call k c found)));
    }
