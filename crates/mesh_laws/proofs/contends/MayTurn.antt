-- Where nothing is under way the leg of a backup is of a guarded call, which is hit by each group that the leg records.
use Rattle.std.proofs.{Common.{◌≡◌, ℕ, Bool, true, false, map, List, refl, sym, ap, ◌∙◌, subst}, lemmas.Option.slice_get-get_or}
use Rattle.std.specs.Prelude.{◌||◌, Option, Some, None, slice_get}
use Rattle.ason_base.specs.{Lsps.is_lsp, Network.{Network, is_distinct}, Risks.has_risk, declared.calls.Phase.TheVariants.Live, declared.commands.Group.Group, declared.ids.Fibre.Fibre, declared.ids.Lsp.Lsp, declared.ids.NodeId.NodeId, declared.messages.PathRole.PathRole, declared.messages.PathRole.TheVariants.{Work, Back}, declared.steps.Step.Step, declared.tables.CallRec.CallRec, declared.tables.Leg.Leg, declared.calls.Role.Role}
use Rattle.ason_base.specs.declared.calls.Role.TheVariants as role
use Rattle.ason_base.proofs.Ordered.{any-there}
use Rattle.mesh_rules.specs.{Calls.{find_call, names}, Commands.is_searchable, Legs.{find_leg, leg_of, takes}, Machine.Mesh, Pairs.beside_lsp, Quiet.IsQuiet}
use Rattle.mesh_nodes.proofs.LegList.{found-all}
use Rattle.lsp_laws.specs.{CallLaw.{FitsLegs, GuardsWork, phases_fit, phase_of}, HopLaw.{LspFits, leg_at}}
use Rattle.lsp_laws.proofs.{hops.Planned.{EachFollows, Routes}, hops.Purposes.{Guards, Tells}, nodes.Facts.MeshFacts, nodes.States.{live-work, row}, nodes.BackLabels.beyond-stands, hops.NamedPhases.named_is, nodes.CallParts.lsp-is}
use Rattle.mesh_laws.specs.{AloneLaw.{is_on_link, is_on_route, risk_of}, RestorationLaw.is_guarded, ContendLaw.{IsHitBy, MayTurnTo}}
use Rattle.mesh_laws.proofs.{alone.Risks.risk-recorded, kept.Phases.{IsUp, LegsUp}, contends.Backups.{LiveAt, backup-of, first-leg, live-at}}

-- a leg of an option
record LegThere (o : Option Lsp) (legs : List Leg) : Type 0 where
  lsp : Lsp
  leg : Leg
  named : o ≡ Some lsp
  here : find_leg lsp legs ≡ Some leg
  live : leg.phase ≡ Live

leg-there : (o : Option Lsp) (legs : List Leg) → phase_of (leg_of o legs) ≡ Some Live → LegThere o legs
leg-there None legs e = absurd (cc e)
leg-there (Some l) legs e = go (find_leg l legs) refl e
  where
    go : (x : Option Leg) → find_leg l legs ≡ x → phase_of x ≡ Some Live → LegThere (Some l) legs
    go None is e = absurd (cc e)
    go (Some g) is e = record { lsp = l; leg = g; named = refl; here = is; live = cc e }

module _ (t : Network) (s : Mesh) (quiet : IsQuiet s) (o : Routes) (hops : (l : Lsp) → LspFits t s l (o l))
    (each : EachFollows t s o) (facts : MeshFacts t s) (up : (n : ℕ) → LegsUp (s.nodes n).legs)
    (searchable : is_searchable t ≡ true) (distinct : is_distinct (map (λ l. l.id.0) t.links) ≡ true) where
  -- a call is hit where its working LSP is Live at a step over a link of the group
  hit-at : (g : Group) (c : CallRec) (w : Lsp) → c.work ≡ Some w → (r : Role) → r ≡ role.Work → (hop : Step) →
      is_on_link t g hop.link ≡ true → LiveAt t s quiet o hops each searchable w r hop → IsHitBy t s g c
  hit-at g c w named r work hop on live = record {
    work = w;
    named = named;
    node = hop.node;
    leg = live.leg;
    there = live.there;
    role = live.role ∙ work;
    live = live.live;
    fibre = live.fibre;
    leads = live.leads;
    on_link = rw live.link on;
  }

  -- the working LSP of a call is Live at its ingress
  record WorkThere (c : CallRec) : Type 0 where
    lsp : Lsp
    named : c.work ≡ Some lsp
    leg : Leg
    here : leg_at s lsp lsp.ingress ≡ Some leg
    is_work : leg.role ≡ role.Work
    live : leg.phase ≡ Live

  work-of : (n : ℕ) (c : CallRec) → FitsLegs n (s.nodes n).lsp (s.nodes n).legs c → LegThere c.work (s.nodes n).legs →
      WorkThere c
  work-of n c fit work =
      let named = named_is n (s.nodes n).lsp (s.nodes n).legs role.Work c.egress c.work work.lsp fit.work work.named in
      let same : named.leg.0 ≡ work.leg = (let x = named.leg.1 in let y = work.here in cc (x, y)) in
      record {
        lsp = work.lsp;
        named = work.named;
        leg = work.leg;
        here = subst (λ m. find_leg work.lsp (s.nodes m).legs ≡ Some work.leg) (sym named.ingress) work.here;
        is_work = subst (λ (z : Leg). z.role ≡ role.Work) same named.leg.2;
        live = work.live;
      }

  -- of a backup, with its leg at the ingress
  module _ (l : Lsp) (a : Leg) (here : leg_at s l l.ingress ≡ Some a) (back : a.role ≡ role.Back) where
    abbrev legs : List Leg
    legs = (s.nodes l.ingress.0).legs

    -- a leg that a call names as its backup isn't its working one
    its-backup : (c : CallRec) → FitsLegs l.ingress.0 (s.nodes l.ingress.0).lsp legs c → names l c ≡ true →
        c.back ≡ Some l
    its-backup c fit named = go (is_lsp c.work l) refl named
      where
        go : (z : Bool) → is_lsp c.work l ≡ z → (z || is_lsp c.back l) ≡ true → c.back ≡ Some l
        go true e named =
            let its = named_is l.ingress.0 (s.nodes l.ingress.0).lsp legs role.Work c.egress c.work l fit.work
            (lsp-is c.work l e) in
            let same : its.leg.0 ≡ a = (let x = its.leg.1 in cc (x, here)) in
            let is : a.role ≡ role.Work = subst (λ (z : Leg). z.role ≡ role.Work) same its.leg.2 in
            absurd (cc (is, back))
        go false e named = lsp-is c.back l named

    -- its call
    record CallOf : Type 0 where
      call : CallRec
      found : find_call call.call (s.nodes l.ingress.0).calls ≡ Some call
      backup : call.back ≡ Some l
      guarded : is_guarded (s.nodes l.ingress.0) call ≡ true
      work : WorkThere call
      guards : GuardsWork work.lsp l a.path_role

    guarded-call : (c : CallRec) → find_call c.call (s.nodes l.ingress.0).calls ≡ Some c →
        FitsLegs l.ingress.0 (s.nodes l.ingress.0).lsp legs c → c.back ≡ Some l → IsUp a → CallOf
    guarded-call c found fit backup a_up =
        let phases : phases_fit c.state (phase_of (leg_of c.work legs)) (Some a.phase) ≡ true =
        (let e = fit.state in rw (backup, here) at e) in
        let live = live-work c.state (phase_of (leg_of c.work legs)) a.phase
        (row c.state (phase_of (leg_of c.work legs)) (Some a.phase) phases) in
        let work = work-of l.ingress.0 c fit (leg-there c.work legs live) in
        record {
          call = c;
          found = found;
          backup = backup;
          guarded = rw (backup, here) a_up;
          work = work;
          guards = fit.guards work.lsp l a work.named backup here;
        }

    call-of : CallOf
    call-of =
        let node = facts.node l.ingress.0 in
        let a_up : IsUp a = found-all IsUp l legs a here (up l.ingress.0) in
        let has = node.has_call l a here refl (beyond-stands a.phase a_up) in
        let fit = node.call has.call.call has.call has.found in
        guarded-call has.call has.found fit (its-backup has.call fit has.named) a_up

  -- the working LSP of the call is the one that the backup's legs guard
  guarded-work : (w l : Lsp) (r : PathRole) (k : ℕ) (primary : List Step) → GuardsWork w l r →
      Tells (Guards k primary) r → w ≡ beside_lsp l k
  guarded-work w l (Work guard) k primary of tells = absurd of
  guarded-work w l (Back active work p) k primary of tells = of ∙ ap (beside_lsp l) tells.0

  -- it goes over a link of the group
  hit-by : (g : Group) (c : CallRec) (work : WorkThere c) (primary : List Step) → o work.lsp ≡ Some primary →
      is_on_route t g primary ≡ true → IsHitBy t s g c
  hit-by g c work primary sent on =
      let hop = any-there (λ (h : Step). is_on_link t g h.link) primary on in
      let place : slice_get primary hop.1.0 ≡ Some hop.0 =
      slice_get-get_or primary hop.1.0 hop.0 hop.1.1 ∙ ap Some (hop.1.2) in
      hit-at g c work.lsp work.named work.leg.role work.is_work hop.0 hop.2
      (live-at t s quiet o hops each searchable work.lsp work.leg primary work.here work.live sent hop.1.0 hop.0 place)

  -- a leg of a backup that takes a label and records a group is of a guarded call, which the group hits
  pub may-turn : (g : Group) (l : Lsp) (n : NodeId) (f : Fibre) (x : ℕ) (b : Leg) → leg_at s l n ≡ Some b →
      b.role ≡ role.Back → takes f x b ≡ true → has_risk b.risks (risk_of g) ≡ true →
      (at : NodeId) × (c : CallRec) × (c.back ≡ Some l) × MayTurnTo t s g n f x at c
  may-turn g l n f x b here back take risk =
      let backup = backup-of t s quiet o hops each searchable l n b here back in
      let first = first-leg t s quiet o hops each searchable l n b here in
      let call = call-of l first.0 first.1 (first.2 ∙ back) in
      let is_w : call.work.lsp ≡ beside_lsp l backup.work =
      guarded-work call.work.lsp l first.0.path_role backup.work backup.primary call.guards
      (backup.legs l.ingress first.0 first.1).1 in
      let on : is_on_route t g backup.primary ≡ true =
      risk-recorded t g distinct backup.primary
      (subst (λ r. has_risk r (risk_of g) ≡ true) (backup.legs n b here).0 risk) in (
        l.ingress,
        call.call,
        call.backup,
        record {
          there = call.found;
          guarded = call.guarded;
          hit = hit-by g call.call call.work backup.primary (ap o is_w ∙ backup.sent) on;
          label = record { back = l; named = call.backup; leg = b; there = here; label = take };
        },
      )
