-- Where nothing is under way: what the legs of a backup have in common, and that an LSP with a leg that is up has one
-- at its ingress.
use Rattle.std.proofs.{Common.{◌≡◌, nat_eq, ◌<◌, ◌≤◌, ℕ, zero, suc, true, List, length, refl, sym, ap, ◌∙◌, subst, arith, inl, inr}, lemmas.Option.slice_get_within}
use Rattle.std.specs.Prelude.{Option, Some, None, slice_get}
use Rattle.ason_base.specs.{Network.Network, Risks.route_risks, declared.calls.Phase.TheVariants.Live, declared.calls.Role.Role, declared.ids.Fibre.Fibre, declared.ids.Lsp.Lsp, declared.ids.NodeId.NodeId, declared.steps.Step.Step, declared.tables.Leg.Leg}
use Rattle.ason_base.specs.declared.calls.Role.TheVariants as role
use Rattle.ason_base.proofs.{Finding.found-passes, JoinedEnds.same-node}
use Rattle.mesh_rules.specs.{Commands.is_searchable, Machine.Mesh, Pairs.beside_lsp, Quiet.IsQuiet, LocalNodes.fibre_out}
use Rattle.lsp_laws.specs.{HopLaw.{LspFits, RouteFits, StepFits, leg_at}, HopShapes.{Closes, Falls, IsTorn, LegKind, LiveLeg, NoLeg, leg_kind}, ReportLaw.place_at, RiskLaw.rows_of}
use Rattle.lsp_laws.proofs.{hops.Chain.{PlaceFits, LegFitsPlan}, hops.Planned.{EachFollows, Follows, Planned, Routes}, hops.Plans.{node_at, plan}, hops.Purposes.{Carries, Guards, Purpose, Tells}, hops.Rows.{BothStand, NoneThere, OnlyTorn, Settled}, hops.RowStates.LiveStands}
use Rattle.mesh_laws.proofs.{restoration.Steps.{begins-at, ends-at, goes-on}, restoration.Settled.{all-alike, kind_on_route, leg-in, one-hop, some-kind}, kept.Places.{at_place, is_up}}

-- before a leg that is up stands one
back-kind : (r : Role) (u d : LegKind) → Settled r u d → is_up d ≡ true → (d ≡ NoLeg → ⊥) → u ≡ d
back-kind r _ _ NoneThere up some = absurd (some refl)
back-kind r _ d (OnlyTorn torn) up some = go r d torn up
  where
    go : (r : Role) (d : LegKind) → IsTorn r d → is_up d ≡ true → NoLeg ≡ d
    go r _ Closes e = absurd (cc e)
    go r _ Falls e = absurd (cc e)
back-kind r _ _ (BothStand stands) up some = refl

some-leg : (b : Option Leg) → (leg_kind b ≡ NoLeg → ⊥) → (g : Leg) × (b ≡ Some g)
some-leg None some = absurd (some refl)
some-leg (Some g) some = (g, refl)

module _ (t : Network) (s : Mesh) (quiet : IsQuiet s) (o : Routes) (hops : (l : Lsp) → LspFits t s l (o l))
    (each : EachFollows t s o) (searchable : is_searchable t ≡ true) where
  -- what the legs of a backup have in common: the working LSP that they guard, and the risks of its route
  pub record Backup (l : Lsp) : Type 0 where
    pub work : ℕ
    pub primary : List Step
    pub sent : o (beside_lsp l work) ≡ Some primary
    pub legs : (n : NodeId) (b : Leg) → leg_at s l n ≡ Some b →
        (b.risks ≡ route_risks (rows_of t) primary) × Tells (Guards work primary) b.path_role

  -- a leg of it tells all of them
  pub backup-of : (l : Lsp) (n : NodeId) (b : Leg) → leg_at s l n ≡ Some b → b.role ≡ role.Back → Backup l
  backup-of l n b here back = go (o l) (each l)
    where
      fit-at : (route : List Step) (e : NodeId) (q : Purpose) → Planned t s o l q (plan route e) → (m : NodeId)
          (c : Leg) → leg_at s l m ≡ Some c → (i : ℕ) × LegFitsPlan t q l (plan route e) i c
      fit-at route e q planned m c there = elim (planned.chain.legs m) [
        | inl none ↦ absurd (cc (none, there))
        | inr (i, small, is) ↦ (let at = same-node m (node_at (plan route e) i) is in
            let stands : leg_at s l (node_at (plan route e) i) ≡ Some c = rw at at there in
            let fits : PlaceFits t q l (plan route e) i (Some c) =
            subst (PlaceFits t q l (plan route e) i) stands (planned.chain.fits i small) in
            (i, fits))
      ]

      of : (route : List Step) (e : NodeId) (q : Purpose) → Planned t s o l q (plan route e) → Backup l
      of route e Carries planned =
          let fit = fit-at route e Carries planned n b here in
          let is : b.role ≡ role.Work = fit.1.role in absurd (cc (is, back))
      of route e (Guards w primary) planned = record {
        work = w;
        primary = primary;
        sent = planned.guards;
        legs = λ m c there. (let fit = fit-at route e (Guards w primary) planned m c there in
            (fit.1.risks searchable, fit.1.tells));
      }

      go : (c : Option (List Step)) → Follows t s o l c → Backup l
      go None f = (let none = f.legs n in absurd (cc (none, here)))
      go (Some route) (e, q, planned) = of route e q planned

  -- the ingress has a leg of the LSP
  module _ (l : Lsp) (n : NodeId) (b : Leg) (here : leg_at s l n ≡ Some b) where
    module _ (r : Role) (route : List Step) (e : NodeId) (route_fits : RouteFits t s r l route e) where
      stands-to : (i : ℕ) → i ≤ length route → (kind_on_route s l route e i ≡ NoLeg → ⊥) →
          kind_on_route s l route e 0 ≡ NoLeg → ⊥
      stands-to zero small some none = some none
      stands-to (suc i) small some none =
          stands-to i (omega arith)
          (λ gone. (let same = back-kind r (kind_on_route s l route e i)
          (kind_on_route s l route e (suc i)) (one-hop t s quiet r l route e route_fits i (omega arith))
          (at_place t s quiet r l route e route_fits (suc i) small) some in some (sym same ∙ gone))) none

      from-place : (i : ℕ) → i ≤ length route → leg_at s l (place_at route e i) ≡ Some b →
          (a : Leg) × (leg_at s l l.ingress ≡ Some a) × (a.role ≡ b.role)
      from-place i small at =
          let some = stands-to i small (λ none. some-kind b (ap leg_kind (sym at) ∙ none)) in
          let begin = begins-at t l.ingress e route route_fits.leads route_fits.long in
          let first = some-leg (leg_at s l (place_at route e 0)) some in
          let there : leg_at s l l.ingress ≡ Some first.0 = subst (λ m. leg_at s l m ≡ Some first.0) begin first.1 in
          (first.0, there, route_fits.roles l.ingress first.0 there ∙ sym (route_fits.roles n b here))

    -- in the same role
    pub first-leg : (a : Leg) × (leg_at s l l.ingress ≡ Some a) × (a.role ≡ b.role)
    first-leg = go (o l) (hops l)
      where
        go : (c : Option (List Step)) → LspFits t s l c →
            (a : Leg) × (leg_at s l l.ingress ≡ Some a) × (a.role ≡ b.role)
        go None blank = (let none = blank.legs n in absurd (cc (none, here)))
        go (Some route) (r, e, fits) = elim (fits.legs n b here) [
          | inl end ↦ from-place r route e fits (length route) (omega arith)
              (rw (ends-at route e, ← end) here)
          | inr (i, hop, there, is) ↦ (let below : i < length route = slice_get_within route i hop there in
              let its : StepFits t s r l hop = fits.hops i hop there in
              let on = goes-on t l.ingress e route fits.leads i hop its.link there its.found in
              from-place r route e fits i (omega arith) (rw (on.near, ← is) here))
        ]

  -- a Live leg of the LSP, of this role, leads out over the step
  pub record LiveAt (w : Lsp) (r : Role) (hop : Step) : Type 0 where
    pub leg : Leg
    pub there : leg_at s w hop.node ≡ Some leg
    pub role : leg.role ≡ r
    pub live : leg.phase ≡ Live
    pub fibre : Fibre
    pub leads : leg.out_fibre ≡ Some fibre
    pub link : fibre.link ≡ hop.link

  -- an LSP that is Live at its ingress is Live at each step of its route
  pub live-at : (w : Lsp) (b : Leg) (primary : List Step) → leg_at s w w.ingress ≡ Some b → b.phase ≡ Live →
      o w ≡ Some primary → (i : ℕ) (hop : Step) → slice_get primary i ≡ Some hop → LiveAt w b.role hop
  live-at w b primary here live sent i hop there = go (subst (LspFits t s w) sent (hops w))
    where
      go : LspFits t s w (Some primary) → LiveAt w b.role hop
      go (r, e, fits) =
          let below : i < length primary = slice_get_within primary i hop there in
          let begin = begins-at t w.ingress e primary fits.leads fits.long in
          let first : kind_on_route s w primary e 0 ≡ LiveLeg = rw (begin, here, live) refl in
          let its : StepFits t s r w hop = fits.hops i hop there in
          let on = goes-on t w.ingress e primary fits.leads i hop its.link there its.found in
          let kind : leg_kind (leg_at s w hop.node) ≡ LiveLeg =
          subst (λ n. leg_kind (leg_at s w n) ≡ LiveLeg) on.near
          (all-alike t s quiet r w primary e fits LiveLeg LiveStands first i (omega arith)) in
          let leg = leg-in Live (leg_at s w hop.node) kind in
          let number = found-passes (λ m. nat_eq m.id.0 hop.link.0) t.links its.link its.found in
          record {
            leg = leg.0;
            there = leg.1;
            role = fits.roles hop.node leg.0 leg.1 ∙ sym (fits.roles w.ingress b here);
            live = leg.2;
            fibre = fibre_out its.link hop.node;
            leads = its.fits.out_fibre leg.0 leg.1;
            link = (let same : its.link.id.0 ≡ hop.link.0 = grind arith in λ j. record { 0 = same j });
          }
