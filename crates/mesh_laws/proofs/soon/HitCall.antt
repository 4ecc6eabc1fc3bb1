-- What is known of a guarded call that is hit, as the group fails and since.
use Rattle.std.proofs.{Common.{append-nil, ◌≡◌, ◌≢◌, ◌<◌, ℕ, inl, nat_eq, suc, true, false, List, [], ◌∷◌, ◌++◌, refl, sym, ◌∙◌, ap, subst, arith}, lemmas.List.Elements.recursion_from_All, lemmas.Option.slice_get_within, lemmas.Bool.not-true}
use Rattle.std.specs.Prelude.{Option, Some, None}
use Rattle.ason_base.specs.{Network.{IsTopology, Network, find_link, touches}, Routes.routes_share_risk, declared.calls.Phase.TheVariants.{Held, Live}, declared.commands.Command.TheVariants.Fail, declared.commands.Group.Group, declared.ids.CallNo.CallNo, declared.ids.Lsp.Lsp, declared.steps.Step.Step, declared.tables.CallRec.CallRec, declared.commands.DeskItem.DeskItem, declared.commands.DeskItem.TheVariants.Alarm}
use Rattle.ason_base.specs.declared.calls.Role.TheVariants as role
use Rattle.mesh_rules.specs.{declared.events.MeshEvent.MeshEvent, declared.events.MeshEvent.TheVariants.Post, Calls.find_call, Events.{IsRun, after, route_of}, Legs.{find_leg, leg_of}, LocalNodes.{fibre_in, local_node, own_link}, Machine.{Mesh, start}}
use Rattle.mesh_nodes.proofs.{CallList.found-call-all, routes.Nodes.find-there}
use Rattle.lsp_laws.specs.{CallLaw.{FitsLegs, IsNamed, phase_of}, HopLaw.leg_at, JoinedLaw.{HasItsLabel, IsLive}, BesideLaw.CallGoesBeside, ReportLaw.ReportsAreOfRoutes, StandLaw.has_backup}
use Rattle.lsp_laws.proofs.{nodes.NodeRuns.facts-hold, hops.HopLaws.follows, hops.JoinedLegs.{labelled_along, live_along}, hops.Planned.Follows, hops.Plans.{LinkLeads, found_id, hops, joined, link_at, node_at, own_far, plan, distinct}, hops.Beside.every_backup_beside, hops.ReportedFibres.every_report_of_route, hops.NamedPhases.named_is}
use Rattle.mesh_laws.specs.{RestorationLaw.{is_guarded, is_lsp_hit, is_route_cut}, SoonLaw.IsStruck, AloneLaw.{AllConcern, CallConcerns, is_on_route}}
use Rattle.mesh_laws.proofs.{alone.AloneRuns.{after-append, run-first}, soon.AtFailure.{IsCalmCall, calm-call, concern-to, first-alarms, none-refused, only-takes, route-stays, run-to, whole-run}, soon.AtStart.{NearestCut, cut-route, nearest-cut}, soon.Noticed.GoodHere, soon.Roles.{Fixed, Roles}, soon.Along.{Known, StateTells, all-good}, soon.Soon.AllGood, soon.Struck.alarm-there, soon.Swept.StandsIn, soon.Unhit.unhit, reports.Desks.every_desk_tells, restoration.Cuts.cut-concerns, soon.Routed.{IsThere, is-there}, soon.CallPhases.{guarded-phases, phase-is}}
use Rattle.ason_base.proofs.{Bools.{and-left, and-right}, JoinedEnds.same-node}

module _ (t : Network) (valid : IsTopology t) (events : List MeshEvent) (run : IsRun t start events) (g : Group)
    (struck : IsStruck t events g) (n : ℕ) (m : CallNo) (c : CallRec)
    (found : find_call m ((after t start struck.before).nodes n).calls ≡ Some c)
    (guarded : is_guarded ((after t start struck.before).nodes n) c ≡ true)
    (hit : is_lsp_hit t (struck.before ++ Post (Fail g) ∷ []) c.work ≡ true) where
  abbrev base : List MeshEvent
  base = struck.before ++ Post (Fail g) ∷ []

  abbrev s : Mesh
  s = after t start (struck.before ++ Post (Fail g) ∷ [])

  -- the run, and its part up to the failure
  pub all-run : IsRun t start ((struck.before ++ Post (Fail g) ∷ []) ++ struck.since)
  all-run = whole-run t valid events run g struck

  -- up to the failure
  pub base-run : IsRun t start (struck.before ++ Post (Fail g) ∷ [])
  base-run = run-first t start base struck.since all-run

  -- its two LSPs
  pub its : IsCalmCall c
  its = calm-call t struck.before (run-first t start struck.before (Post (Fail g) ∷ []) base-run) struck.calm n m c found
      guarded

  -- the failure leaves what nodes keep
  pub found-then : find_call m ((after t start (struck.before ++ Post (Fail g) ∷ [])).nodes n).calls ≡ Some c
  found-then =
      subst (λ (x : Mesh). find_call m (x.nodes n).calls ≡ Some c)
      (sym (after-append t start struck.before (Post (Fail g) ∷ []))) found

  fit : FitsLegs n (s.nodes n).lsp (s.nodes n).legs c
  fit = ((facts-hold t base base-run).node n).call m c found-then

  named-work : IsNamed n (s.nodes n).lsp (s.nodes n).legs role.Work c.egress its.work
  named-work = named_is n (s.nodes n).lsp (s.nodes n).legs role.Work c.egress c.work its.work fit.work its.is_work

  named-back : IsNamed n (s.nodes n).lsp (s.nodes n).legs role.Back c.egress its.back
  named-back = named_is n (s.nodes n).lsp (s.nodes n).legs role.Back c.egress c.back its.back fit.back its.is_back

  phases : (phase_of (leg_of c.work (s.nodes n).legs) ≡ Some Live) ×
      (phase_of (leg_of c.back (s.nodes n).legs) ≡ Some Held)
  phases = guarded-phases c.state _ _ fit.state its.state

  work-live : named-work.leg.0.phase ≡ Live
  work-live = phase-is c.work its.work (s.nodes n).legs named-work.leg.0 Live its.is_work named-work.leg.1 phases.0

  back-held : named-back.leg.0.phase ≡ Held
  back-held = phase-is c.back its.back (s.nodes n).legs named-back.leg.0 Held its.is_back named-back.leg.1 phases.1

  -- the routes
  pub work-route : (r : List Step) × (route_of t start (struck.before ++ Post (Fail g) ∷ []) its.work ≡ Some r) ×
      (is_route_cut t s.failed (Some r) ≡ true)
  work-route =
      cut-route t s (route_of t start base its.work)
      (subst (λ (o : Option Lsp). is_lsp_hit t base o ≡ true) its.is_work hit)

  -- and that of the backup
  pub back-route : (r : List Step) × (route_of t start (struck.before ++ Post (Fail g) ∷ []) its.back ≡ Some r)
  back-route = go (route_of t start base its.back) refl (follows t base base-run its.back)
    where
      here : leg_at s its.back its.back.ingress ≡ Some named-back.leg.0
      here = subst (λ k. find_leg its.back (s.nodes k).legs ≡ Some named-back.leg.0) (sym named-back.ingress)
          named-back.leg.1

      go : (o : Option (List Step)) → route_of t start base its.back ≡ o →
          Follows t s (route_of t start base) its.back o →
          (r : List Step) × (route_of t start base its.back ≡ Some r)
      go None is blank = absurd (let none = blank.legs its.back.ingress in cc (none, here))
      go (Some r) is follow = (r, is)

  work-there : IsThere t valid base base-run its.work (plan work-route.0 c.egress) IsLive
  work-there =
      is-there t valid base base-run role.Work n c.egress its.work work-route.0 named-work work-route.1 IsLive
      (λ q p chain. live_along t s q its.work p chain) work-live

  back-there : IsThere t valid base base-run its.back (plan back-route.0 c.egress) HasItsLabel
  back-there =
      is-there t valid base base-run role.Back n c.egress its.back back-route.0 named-back back-route.1 HasItsLabel
      (λ q p chain. labelled_along t s q its.back p chain) (rw back-held refl)

  pub cut : NearestCut t s.failed work-route.0
  cut = nearest-cut t s.failed work-route.0 work-route.2

  -- its routes, and where the nearest cut is
  abbrev pub roles : Roles
  roles = record {
    call = m;
    ingress = record { 0 = n };
    work = its.work;
    work_plan = plan work-route.0 c.egress;
    back = its.back;
    back_plan = plan back-route.0 c.egress;
    place = cut.place;
    link = cut.link;
  }

  -- where it goes
  pub fixed : Fixed t roles
  fixed =
      let here : its.work.ingress ≡ record { 0 = n } = same-node its.work.ingress (record { 0 = n }) named-work.ingress in
      let there : its.back.ingress ≡ record { 0 = n } = same-node its.back.ingress (record { 0 = n }) named-back.ingress
      in
      record {
        work_route = work-there.route;
        back_route = back-there.route;
        work_first = work-there.route.first ∙ here;
        back_first = back-there.route.first ∙ there;
        work_here = here;
        within = slice_get_within work-route.0 cut.place cut.hop cut.there;
        over = found_id cut.hop.link t.links cut.link cut.found ∙ sym (let on = cut.there in rw on refl);
      }

  -- The link of the cut

  over-link : find_link t (link_at (plan work-route.0 c.egress) cut.place) ≡ Some cut.link
  over-link =
      let on : link_at (plan work-route.0 c.egress) cut.place ≡ cut.hop.link = (let there = cut.there in rw there refl) in
      rw on cut.found

  within : cut.place < hops (plan work-route.0 c.egress)
  within = slice_get_within work-route.0 cut.place cut.hop cut.there

  leads : LinkLeads t (link_at (plan work-route.0 c.egress) cut.place) (node_at (plan work-route.0 c.egress) cut.place)
      (node_at (plan work-route.0 c.egress) (suc cut.place))
  leads = work-there.route.links cut.place within

  same-link : leads.link ≡ cut.link
  same-link = (let x = leads.found in let y = over-link in cc (x, y))

  nodes-apart : (node_at (plan work-route.0 c.egress) cut.place).0 ≢ (node_at (plan work-route.0 c.egress) (suc cut.place)).0
  nodes-apart = distinct t its.work.ingress (plan work-route.0 c.egress) work-there.route cut.place (suc cut.place)
      (omega (arith, within)) (omega (arith, within)) (omega arith)

  own : own_link (local_node t (node_at (plan work-route.0 c.egress) (suc cut.place))) cut.link.id ≡ Some cut.link
  own =
      subst (λ k. own_link (local_node t (node_at (plan work-route.0 c.egress) (suc cut.place))) k ≡ Some cut.link)
      (sym fixed.over)
      (own_far t (link_at (plan work-route.0 c.egress) cut.place) (node_at (plan work-route.0 c.egress) cut.place)
      (node_at (plan work-route.0 c.egress) (suc cut.place)) nodes-apart leads ∙ ap Some same-link)

  -- What the laws tell

  concern-base : AllConcern t g (after t start (struck.before ++ Post (Fail g) ∷ []))
  concern-base =
      subst (λ xs. AllConcern t g (after t start xs)) (append-nil base)
      (concern-to t valid events run g struck [] struck.since refl)

  -- the group is on the working route
  pub hit-group : is_on_route t g work-route.0 ≡ true
  hit-group = cut-concerns t s.failed g work-route.0 concern-base.failed work-route.2

  -- and the backup shares no risk with it
  pub apart : routes_share_risk t work-route.0 back-route.0 ≡ false
  apart =
      let all = recursion_from_All (CallGoesBeside t base) (s.nodes n).calls
      ((every_backup_beside t base base-run).calls n) in
      let goes : CallGoesBeside t base c = found-call-all (CallGoesBeside t base) m (s.nodes n).calls c found-then all in
      let go = goes its.work its.back its.is_work its.is_back in
      let one : go.primary ≡ work-route.0 = (let x = go.work_sent in let y = work-route.1 in cc (x, y)) in
      let two : go.backup ≡ back-route.0 = (let x = go.back_sent in let y = back-route.1 in cc (x, y)) in
      let no : routes_share_risk t go.primary go.backup ≡ false =
      not-true (routes_share_risk t go.primary go.backup) (and-left _ _ (and-right _ _ go.beside)) in
      subst (λ r. routes_share_risk t work-route.0 r ≡ false) two
      (subst (λ r. routes_share_risk t r go.backup ≡ false) one no)

  tells : (first later : List MeshEvent) → first ++ later ≡ struck.since →
      StateTells t valid g roles fixed cut.hop cut.there cut.found own ((struck.before ++ Post (Fail g) ∷ []) ++ first)
  tells first later parts =
      let so_far : IsRun t start (base ++ first) = run-to t valid events run g struck first later parts in
      let concern : AllConcern t g (after t start (base ++ first)) =
      concern-to t valid events run g struck first later parts in
      let back : route_of t start (base ++ first) its.back ≡ Some back-route.0 =
      route-stays t start base first its.back back-route.0 back-route.1 in
      record {
        concern = concern;
        work_sent = route-stays t start base first its.work work-route.0 work-route.1;
        back_sent = back;
        unstuck = λ d at is. (found-call-all (CallConcerns t g) m ((after t start (base ++ first)).nodes n).calls d at
            (concern.nodes n).calls).free is;
        unhit = λ d at is_back.
            unhit t g (route_of t start (base ++ first)) its.back work-route.0 back-route.0 back apart hit-group d is_back
            (found-call-all (ReportsAreOfRoutes t (base ++ first)) m ((after t start (base ++ first)).nodes n).calls d at
            (recursion_from_All (ReportsAreOfRoutes t (base ++ first)) ((after t start (base ++ first)).nodes n).calls
            (every_report_of_route t (base ++ first) so_far n)))
            (found-call-all (CallConcerns t g) m ((after t start (base ++ first)).nodes n).calls d at
            (concern.nodes n).calls);
      }

  known : Known t valid g roles fixed cut.hop cut.there cut.found own (struck.before ++ Post (Fail g) ∷ [])
  known = record {
    concern = concern-base;
    none_up = first-alarms t valid events run g struck;
    work_sent = work-route.1;
    back_sent = back-route.1;
    call = c;
    found = found-then;
    is_work = its.is_work;
    is_back = its.is_back;
    work_end = refl;
    back_end = refl;
    backed = subst (λ x. has_backup x ≡ true) (sym its.state) refl;
    told = inl its.state;
  }

  -- all that its restoration needs holds since
  pub good : AllGood t (GoodHere t roles) (after t start (struck.before ++ Post (Fail g) ∷ [])) struck.since
  good =
      all-good t valid g roles fixed cut.hop cut.there cut.found own base struck.since all-run
      (only-takes t valid events run g struck) (none-refused t valid events run g struck) tells known

  -- and the alarm is on the desk of the node behind the cut
  pub alarm : (before : List DeskItem) × StandsIn (s.desks (node_at (plan work-route.0 c.egress) (suc cut.place)).0)
      (Alarm (fibre_in cut.link (node_at (plan work-route.0 c.egress) (suc cut.place)))) before
  alarm =
      alarm-there t s (every_desk_tells t base valid base-run)
      (node_at (plan work-route.0 c.egress) (suc cut.place)) cut.link
      (find-there (λ l. nat_eq l.id.0 cut.hop.link.0) t.links cut.link cut.found)
      (subst (λ l. touches (node_at (plan work-route.0 c.egress) (suc cut.place)) l ≡ true) same-link
      (joined t (link_at (plan work-route.0 c.egress) cut.place) (node_at (plan work-route.0 c.egress) cut.place)
      (node_at (plan work-route.0 c.egress) (suc cut.place)) nodes-apart leads).touches_far)
      (subst (λ (x : Mesh). (x.nodes (node_at (plan work-route.0 c.egress) (suc cut.place)).0).down ≡ [])
      (sym (after-append t start struck.before (Post (Fail g) ∷ [])))
      (struck.calm.down (node_at (plan work-route.0 c.egress) (suc cut.place)).0))
      cut.cut
