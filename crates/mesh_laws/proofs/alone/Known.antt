-- What an activation needs to know of a state is told by the laws of every run.
use Rattle.std.proofs.{Common.{◌≡◌, ℕ, suc, Bool, true, false, not, List, ◌∷◌, sym, ap, ◌∙◌, subst}, lemmas.List.Elements.recursion_from_All, lemmas.Bool.not-true}
use Rattle.std.specs.Prelude.{Option, Some, None}
use Rattle.ason_base.specs.{Network.{IsTopology, Network}, Risks.route_risks, Routes.{makes_route, routes_share_risk}, declared.ids.LinkId.LinkId, declared.ids.Lsp.Lsp, declared.ids.NodeId.NodeId, declared.steps.Step.Step, declared.calls.CallState.CallState, declared.calls.CallState.TheVariants.Stuck, declared.calls.Role.Role, declared.messages.Msg.Msg, declared.messages.Msg.TheVariants.{Path, Resv, PathTear, PathErr, Notify}, declared.messages.PathRole.PathRole, declared.messages.PathRole.TheVariants.{Work, Back}, declared.tables.CallRec.CallRec, declared.tables.Leg.Leg}
use Rattle.ason_base.specs.declared.calls.Role.TheVariants as role
use Rattle.ason_base.proofs.Bools.{and-left, and-right}
use Rattle.mesh_rules.specs.{declared.events.MeshEvent.MeshEvent, Commands.is_searchable, Events.{after, route_of}, Legs.{find_leg, previous}, LocalNodes.local_node, Machine.{Mesh, start}, Pairs.route_from, Turns.has_any}
use Rattle.mesh_rules.proofs.Topologies.{topology_searchable}
use Rattle.mesh_nodes.proofs.{CallList.{all-calls_found, found-call-all}, LegList.{found-all, found-lsp, same_lsp-refl}}
use Rattle.lsp_laws.specs.{BesideLaw.{BackupsGoBeside, CallGoesBeside, GoBeside}, CallLaw.{FitsLegs, IsNamed, fits_reports}, HopLaw.{leg_at, messages_of}, RiskLaw.{BackupsRecordRisks, RecordsRisks, rows_of}}
use Rattle.lsp_laws.proofs.{hops.Chain.{LegFitsPlan, RisksFit}, hops.OnHops.{Down, OnHop, Up, on_hop}, hops.Paired.{no_previous, whole-route}, hops.Planned.EachFollows, hops.Plans.node_at, hops.Purposes.{Carries, Guards, Purpose, Tells, purpose_role}, hops.Rows.no_active_up, nodes.Facts.MeshFacts, hops.NamedPhases.named_is}
use Rattle.mesh_laws.specs.HeardLaw.{primary_of}
use Rattle.mesh_laws.proofs.{alone.Facts.{CallKnows, MeshKnows, MsgKnows, NodeKnows, RecordsRoute, RoleKnows, LspRoutes}, sent.Sound.Sound, sent.Uses.{gift-shares, leg-shares}}

-- A Path that activates

-- It comes down the route of its LSP, and tells the same as the leg that it comes to.
module _ (t : Network) (s : Mesh) (o : LspRoutes) (searchable : is_searchable t ≡ true) (follows : EachFollows t s o)
  where
    told : (q : Purpose) (b : Leg) (work : ℕ) (primary : List Step) → Tells q (Back true work primary) →
        RisksFit t q b.risks → b.risks ≡ route_risks (rows_of t) primary
    told Carries b work primary tells risks = absurd tells
    told (Guards w route) b work primary tells risks = risks searchable ∙ ap (route_risks (rows_of t)) (sym tells.1)

    module _ (l : Lsp) (e : NodeId) (k : LinkId) (steps : List Step) (set : List ℕ) (up : Option ℕ) (work : ℕ)
        (primary : List Step) (rest : List Msg) (b : Leg) where
      abbrev m : Msg
      m = Path l e k steps set up (Back true work primary)

      first-knows : (u d : NodeId) → s.mail u.0 d.0 ≡ m ∷ rest → find_leg l (s.nodes d.0).legs ≡ Some b →
          b.risks ≡ route_risks (rows_of t) primary
      first-knows u d was here =
          go (on_hop t s o l u d m rest was (same_lsp-refl l) follows)
        where
          go : OnHop t s o l u d (m ∷ messages_of l rest) → b.risks ≡ route_risks (rows_of t) primary
          go (Down q p planned i below u_is d_is list) =
              let stands : leg_at s l (node_at p (suc i)) ≡ Some b = rw d_is at here in
              let fits : LegFitsPlan t q l p (suc i) b = rw stands at (planned.chain.fits (suc i) below) in
              let downs = rw list at (planned.chain.each i below).rest.going_down in
              told q b work primary downs.0.3 fits.risks
          go (Up q p planned i below u_is d_is list) =
              absurd (no_active_up (purpose_role q) _ _ _ _ (rw list at (planned.chain.each i below).shape))

    path-knows : (u d : NodeId) (l : Lsp) (e : NodeId) (k : LinkId) (steps : List Step) (set : List ℕ) (up : Option ℕ)
        (r : PathRole) (ms : List Msg) → s.mail u.0 d.0 ≡ Path l e k steps set up r ∷ ms →
        RoleKnows t (s.nodes d.0) l r
    path-knows u d l e k route set up (Work guard) ms was = tt
    path-knows u d l e k route set up (Back true work primary) ms was =
        λ b here back. first-knows l e k route set up work primary ms b u d was here
    path-knows u d l e k route set up (Back false work primary) ms was = tt

-- The first message of a list

-- what was sent for an LSP, and which primaries were told, is another function in Sound: no matter which one
module _ (t : Network) (s : Mesh) (o : LspRoutes) (valid : IsTopology t) (follows : EachFollows t s o)
    (o' w : LspRoutes)
    (now : Sound t o' w s) where
  pub msg-knows : (u d : NodeId) (m : Msg) (ms : List Msg) → s.mail u.0 d.0 ≡ m ∷ ms → MsgKnows t (s.nodes d.0) u m
  msg-knows u d (Path l e k route set up r) ms was =
      path-knows t s o (topology_searchable t valid) follows u d l e k route set up r ms was
  msg-knows u d (Resv l e k x) ms was = λ b found over.
      gift-shares t o' w s now valid d l e u k x ms was b found (found-lsp l (s.nodes d.0).legs b found) over
  msg-knows u d (PathTear l e k) ms was = tt
  msg-knows u d (PathErr l e at gone code) ms was = tt
  msg-knows u d (Notify l e at k code) ms was = tt

-- Legs and calls

module _ (t : Network) (events : List MeshEvent) (facts : MeshFacts t (after t start events))
    (follows : EachFollows t (after t start events) (route_of t start events)) (risks : BackupsRecordRisks t events)
    (beside : BackupsGoBeside t events) (valid : IsTopology t) (o' : LspRoutes)
    (now : Sound t o' (primary_of t start events) (after t start events)) where
  abbrev s : Mesh
  s = after t start events

  abbrev o : LspRoutes
  o = route_of t start events

  -- the leg of an LSP that a call names
  named-role : (n next : ℕ) (legs : List Leg) (r : Role) (e : NodeId) (l : Lsp) (b : Leg) → IsNamed n next legs r e l →
      find_leg l legs ≡ Some b → b.role ≡ r
  named-role n next legs r e l b named here =
      let is : named.leg.0 ≡ b = (let there = named.leg.1 in cc (there, here)) in
      subst (λ (x : Leg). x.role ≡ r) is named.leg.2

  apart-risks : (e : NodeId) (w l : Lsp) (primary backup : List Step) → GoBeside t events e w l → o w ≡ Some primary →
      o l ≡ Some backup → routes_share_risk t primary backup ≡ false
  apart-risks e w l primary backup go sent sent' =
      let this : go.primary ≡ primary = (let was = go.work_sent in cc (was, sent)) in
      let that : go.backup ≡ backup = (let was = go.back_sent in cc (was, sent')) in
      let both = and-left (not (routes_share_risk t go.primary go.backup)) _
      (and-right (makes_route t l.ingress e go.backup) _ go.beside) in
      subst (λ x. routes_share_risk t primary x ≡ false) that
      (subst (λ x. routes_share_risk t x go.backup ≡ false) this
      (not-true (routes_share_risk t go.primary go.backup) both))

  stuck-reports : (state : CallState) (works backs : Bool) → state ≡ Stuck → fits_reports state works backs ≡ true →
      works ≡ true
  stuck-reports state works backs is fits = rw is at fits

  call-knows : (n : ℕ) (c : CallRec) → FitsLegs n (s.nodes n).lsp (s.nodes n).legs c → CallGoesBeside t events c →
      CallKnows t o (s.nodes n).legs c
  call-knows n c fits goes = record {
    work_role = λ w b is here. named-role n (s.nodes n).lsp (s.nodes n).legs role.Work c.egress w b
        (named_is n (s.nodes n).lsp (s.nodes n).legs role.Work c.egress c.work w fits.work is) here;
    back_role = λ l b is here. named-role n (s.nodes n).lsp (s.nodes n).legs role.Back c.egress l b
        (named_is n (s.nodes n).lsp (s.nodes n).legs role.Back c.egress c.back l fits.back is) here;
    guards = fits.guards;
    apart = λ w l primary backup is_work is_back sent sent'.
        apart-risks c.egress w l primary backup (goes w l is_work is_back) sent sent';
    stuck = λ is. stuck-reports c.state (has_any c.work_reports) (has_any c.back_reports) is fits.reports;
  }

  records : (b : Leg) (r : PathRole) → RecordsRisks t events b r → RecordsRoute t o b r
  records b (Work guard) its = its
  records b (Back active work primary) its = (its.sent, its.risks)

  begins : (n : NodeId) (l : Lsp) (b : Leg) → find_leg l (s.nodes n.0).legs ≡ Some b → previous b ≡ None →
      o b.lsp ≡ Some (route_from (local_node t n) b)
  begins n l b here first =
      let stands : leg_at s b.lsp n ≡ Some b =
      subst (λ k. leg_at s k n ≡ Some b) (sym (found-lsp l (s.nodes n.0).legs b here)) here in
      whole-route t s o b.lsp n b (o b.lsp) (follows b.lsp)
      (no_previous t s o b.lsp n b (o b.lsp) (follows b.lsp) stands first) stands

  node-knows : (n : NodeId) → NodeKnows t o (local_node t n) (s.nodes n.0)
  node-knows n =
      let its = facts.node n.0 in
      record {
        rise = its.legs_rise;
        shares = λ l b found. leg-shares t o' (primary_of t start events) s now valid n l b found
            (found-lsp l (s.nodes n.0).legs b found);
        records = λ l b here back. records b b.path_role
            (found-all (λ x. x.role ≡ role.Back → RecordsRisks t events x x.path_role) l (s.nodes n.0).legs b here
            (recursion_from_All (λ x. x.role ≡ role.Back → RecordsRisks t events x x.path_role) (s.nodes n.0).legs
            (risks n.0)) back);
        begins = begins n;
        calls = all-calls_found (CallKnows t o (s.nodes n.0).legs) (s.nodes n.0).calls its.calls_rise
            (λ k c found. call-knows n.0 c (its.call k c found)
            (found-call-all (CallGoesBeside t events) k (s.nodes n.0).calls c found
            (recursion_from_All (CallGoesBeside t events) (s.nodes n.0).calls (beside.calls n.0))));
      }

  pub mesh-knows : MeshKnows t o s
  mesh-knows = record {
    nodes = node-knows;
    firsts = msg-knows t s o valid follows o' (primary_of t start events) now;
  }
