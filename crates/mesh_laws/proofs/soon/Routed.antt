-- An LSP of a call goes along its route.
use Rattle.std.proofs.Common.{◌≡◌, ◌≤◌, ℕ, List, sym, ◌∙◌, subst, arith}
use Rattle.std.specs.Prelude.{Some}
use Rattle.ason_base.specs.{Network.{IsTopology, Network}, declared.calls.Phase.Phase, declared.calls.Role.Role, declared.ids.Lsp.Lsp, declared.ids.NodeId.NodeId, declared.steps.Step.Step}
use Rattle.mesh_rules.specs.{declared.events.MeshEvent.MeshEvent, Events.{IsRun, after, route_of}, Legs.find_leg, Machine.{Mesh, start}}
use Rattle.lsp_laws.specs.{CallLaw.IsNamed, HopLaw.{leg_at, mail_between}}
use Rattle.lsp_laws.proofs.{hops.Chain.{Chain, LegFitsPlan}, hops.HopLaws.follows, hops.JoinedLegs.{GoesAlong, InPhase, all_in_phase}, hops.Planned.{Follows, Routes}, hops.Plans.{IsPlanRoute, Plan, hops, node_at, plan}, hops.Purposes.Purpose}

module _ (t : Network) (valid : IsTopology t) (events : List MeshEvent) (run : IsRun t start events) where
  abbrev s : Mesh
  s = after t start events

  abbrev o : Routes
  o = route_of t start events

  -- its route, and the phases of its legs along it
  pub record IsThere (l : Lsp) (p : Plan) (P : Phase → Type 0) : Type 0 where
    pub purpose : Purpose
    pub route : IsPlanRoute t l.ingress p
    pub chain : Chain t purpose l p (leg_at (after t start events) l) (mail_between (after t start events) l)
    pub along : (i : ℕ) → i ≤ hops p → InPhase (after t start events) l P (node_at p i)

  -- An LSP that a call names is there so, where its leg at the ingress has such a phase.
  pub is-there : (r : Role) (n : ℕ) (e : NodeId) (l : Lsp) (route : List Step) →
      (named : IsNamed n (s.nodes n).lsp (s.nodes n).legs r e l) → o l ≡ Some route → (P : Phase → Type 0) →
      ((q : Purpose) (p : Plan) → Chain t q l p (leg_at s l) (mail_between s l) → GoesAlong t s q l p P) →
      P named.leg.0.phase → IsThere l (plan route e) P
  is-there r n e l route named sent P goes phase = go (subst (Follows t s o l) sent (follows t events run l))
    where
      here : leg_at s l l.ingress ≡ Some named.leg.0
      here = subst (λ m. find_leg l (s.nodes m).legs ≡ Some named.leg.0) (sym named.ingress) named.leg.1

      go : Follows t s o l (Some route) → IsThere l (plan route e) P
      go (end, q, pl) =
          let at_first : leg_at s l (node_at (plan route end) 0) ≡ Some named.leg.0 = rw pl.route.first here in
          let fits : LegFitsPlan t q l (plan route end) 0 named.leg.0 =
          (let any = pl.chain.fits 0 (omega arith) in rw at_first at any) in
          let same : end ≡ e = sym fits.egress ∙ named.leg.3 in
          subst (λ (x : NodeId). IsThere l (plan route x) P) same (record {
            purpose = q;
            route = pl.route;
            chain = pl.chain;
            along = all_in_phase t s q l (plan route end) pl.chain P (goes q (plan route end) pl.chain)
                (named.leg.0, at_first, phase);
          })
