-- What the laws of a state tell of a call that has its backup.
use Rattle.std.proofs.Common.{◌≡◌, ◌≤◌, ℕ, suc, true, false, nat_eq, List, [], ◌∷◌, ◌++◌, refl, sym, ◌∙◌, ap, subst, arith, Contains}
use Rattle.std.specs.{Prelude.{Some, map, slice_get}, List.AllByRecursion}
use Rattle.ason_base.specs.{Network.{IsTopology, Network, find_link}, declared.calls.CallState.CallState, declared.calls.CallState.TheVariants.{Asking, Bare, Blocked, Guarded, Pairing, Stuck, Turned, Turning}, declared.calls.Phase.TheVariants.{Armed, Live}, declared.commands.Group.Group, declared.ids.NodeId.NodeId, declared.messages.Msg.Msg, declared.messages.Msg.TheVariants.{Path, Resv, PathTear, PathErr, Notify}, declared.messages.PathRole.TheVariants.{Work, Back}, declared.steps.Step.Step, declared.tables.CallRec.CallRec, declared.tables.Leg.Leg}
use Rattle.ason_base.specs.declared.calls.Role.TheVariants as role
use Rattle.mesh_rules.specs.{declared.events.MeshEvent.MeshEvent, Calls.find_call, Events.{IsRun, after, route_of}, Legs.{find_leg, is_beyond_asked, is_closing}, Machine.{Mesh, start}, Turns.has_any}
use Rattle.mesh_nodes.proofs.LegList.{same_lsp-refl}
use Rattle.lsp_laws.specs.{CallLaw.{FitsLegs, IsNamed, phases_fit}, HopLaw.{leg_at, mail_between}, HopShapes.{ArmedLeg, Contention, leg_kind, msg_kind}, JoinedLaw.{HasItsLabel, IsLive}, ReportLaw.{PlaceTells, RouteTells, StandsTo, is_standing}, StandLaw.has_backup}
use Rattle.lsp_laws.proofs.{nodes.CallParts.names-back, nodes.Facts.MeshFacts, nodes.NodeLaws.every_call, nodes.NodeRuns.facts-hold, hops.JoinedLegs.{labelled_along, live_along}, hops.Plans.{hops, node_at, plan}, hops.NamedPhases.named_is, nodes.BackLabels.beyond-stands}
use Rattle.mesh_laws.specs.AloneLaw.{AllConcern, MsgConcerns}
use Rattle.mesh_laws.proofs.{reports.ReportLaws.{every_report_tells, place-is}, restoration.Called.call-is, soon.Armed.{FoundKind, HasKind, find-kind}, soon.Roles.{CallIs, Fixed, IsTurned, IsTurning, Roles, Scene, Waits}, soon.CallPhases.{PhasesAre, armed-turning, backed-phases, fits-of, guarded-unhit, turning-armed}, soon.Routed.{IsThere, is-there}, surveyed.Rows.find-contains}

all-at : {X : Type 0} (P : X → Type 0) (before : List X) (x : X) (later : List X) →
    AllByRecursion P (before ++ x ∷ later) → P x
all-at P [] x later all = all.0
all-at P (y ∷ before) x later all = all-at P before x later all.1

no-contention : (t : Network) (g : Group) (m : Msg) → msg_kind m ≡ Contention → MsgConcerns t g m → ⊥
no-contention t g (Path l e k route set up (Back true work primary)) kind concerns = cc kind
no-contention t g (Path l e k route set up (Back false work primary)) kind concerns = cc kind
no-contention t g (Path l e k route set up (Work guard)) kind concerns = cc kind
no-contention t g (Resv l e k x) kind concerns = cc kind
no-contention t g (PathTear l e k) kind concerns = cc kind
no-contention t g (PathErr l e at true code) kind concerns = cc kind
no-contention t g (PathErr l e at false code) kind concerns = concerns
no-contention t g (Notify l e at k code) kind concerns = cc kind

module _ (t : Network) (valid : IsTopology t) (events : List MeshEvent) (run : IsRun t start events) where
  abbrev s : Mesh
  s = after t start events

  facts : MeshFacts t (after t start events)
  facts = facts-hold t events run

  -- The scene

  module _ (g : Group) (concern : AllConcern t g (after t start events))
      (r : Roles) (fixed : Fixed t r) (c : CallRec)
      (found : find_call r.call ((after t start events).nodes r.ingress.0).calls ≡ Some c)
      (is_work : c.work ≡ Some r.work) (is_back : c.back ≡ Some r.back)
      (work_end : c.egress ≡ r.work_plan.egress) (back_end : c.egress ≡ r.back_plan.egress)
      (work_sent : route_of t start events r.work ≡ Some r.work_plan.route)
      (back_sent : route_of t start events r.back ≡ Some r.back_plan.route)
      (hop : Step) (there : slice_get r.work_plan.route r.place ≡ Some hop)
      (link_found : find_link t hop.link ≡ Some r.link)
      (backed : has_backup c.state ≡ true) (unstuck : c.state ≡ Stuck → ⊥)
      (unhit : c.back_reports ≡ []) where
    abbrev n : ℕ
    n = r.ingress.0

    fit : FitsLegs r.ingress.0 ((after t start events).nodes r.ingress.0).lsp
        ((after t start events).nodes r.ingress.0).legs c
    fit = (facts.node r.ingress.0).call r.call c found

    named-work : IsNamed n (s.nodes n).lsp (s.nodes n).legs role.Work c.egress r.work
    named-work = named_is n (s.nodes n).lsp (s.nodes n).legs role.Work c.egress c.work r.work fit.work is_work

    named-back : IsNamed n (s.nodes n).lsp (s.nodes n).legs role.Back c.egress r.back
    named-back = named_is n (s.nodes n).lsp (s.nodes n).legs role.Back c.egress c.back r.back fit.back is_back

    state-fits : phases_fit c.state (Some named-work.leg.0.phase) (Some named-back.leg.0.phase) ≡ true
    state-fits =
        fits-of c.state (s.nodes n).legs c.work c.back r.work r.back named-work.leg.0 named-back.leg.0 is_work is_back
        named-work.leg.1 named-back.leg.1 fit.state

    phases : PhasesAre (Some named-work.leg.0.phase) (Some named-back.leg.0.phase)
    phases = backed-phases c.state (Some named-work.leg.0.phase) (Some named-back.leg.0.phase) state-fits backed

    work-live : named-work.leg.0.phase ≡ Live
    work-live = (let e = phases.work in cc e)

    back-beyond : is_beyond_asked named-back.leg.0.phase ≡ true
    back-beyond =
        let e : named-back.leg.0.phase ≡ phases.phase = (let b = phases.back in cc b) in
        subst (λ x. is_beyond_asked x ≡ true) (sym e) phases.beyond

    work-there : IsThere t valid events run r.work r.work_plan IsLive
    work-there =
        subst (λ (x : NodeId). IsThere t valid events run r.work (plan r.work_plan.route x) IsLive) work_end
        (is-there t valid events run role.Work n c.egress r.work r.work_plan.route named-work work_sent IsLive
        (λ q p chain. live_along t s q r.work p chain) work-live)

    back-there : IsThere t valid events run r.back r.back_plan HasItsLabel
    back-there =
        subst (λ (x : NodeId). IsThere t valid events run r.back (plan r.back_plan.route x) HasItsLabel) back_end
        (is-there t valid events run role.Back n c.egress r.back r.back_plan.route named-back back_sent HasItsLabel
        (λ q p chain. labelled_along t s q r.back p chain) back-beyond)

    stands : (i : ℕ) → i ≤ hops r.work_plan → (leg : Leg) × (leg_at s r.work (node_at r.work_plan i) ≡ Some leg) ×
        (is_closing leg.phase ≡ false)
    stands i small =
        let at_place = work-there.along i small in
        (at_place.0, at_place.1, (let live = at_place.2 in rw live refl))

    back-first : (leg : Leg) → leg_at s r.back (node_at r.back_plan 0) ≡ Some leg → leg ≡ named-back.leg.0
    back-first leg here =
        let at_ingress : find_leg r.back (s.nodes n).legs ≡ Some leg =
        subst (λ (x : NodeId). find_leg r.back (s.nodes x.0).legs ≡ Some leg) fixed.back_first here in
        let first = named-back.leg.1 in
        cc (at_ingress, first)

    back-here : leg_at s r.back (node_at r.back_plan 0) ≡ Some named-back.leg.0
    back-here = subst (λ (x : NodeId). find_leg r.back (s.nodes x.0).legs ≡ Some named-back.leg.0)
        (sym fixed.back_first) named-back.leg.1

    uncontended : (u d : NodeId) → HasKind Contention (map msg_kind (mail_between s r.back u d)) → ⊥
    uncontended u d has =
        let f : FoundKind r.back Contention (s.mail u.0 d.0) = find-kind r.back Contention (s.mail u.0 d.0) has in
        let all : AllByRecursion (MsgConcerns t g) (f.before ++ f.msg ∷ f.stands.later) =
        subst (AllByRecursion (MsgConcerns t g)) f.stands.all (concern.mail u.0 d.0) in
        no-contention t g f.msg f.kind (all-at (MsgConcerns t g) f.before f.msg f.stands.later all)

    in-calls : Contains (s.nodes n).calls c
    in-calls = find-contains (λ (d : CallRec). nat_eq d.call.0 r.call.0) (s.nodes n).calls c found

    state-is : CallIs c (leg_kind (leg_at s r.back (node_at r.back_plan 0)) ≡ ArmedLeg)
    state-is = go c.state refl
      where
        go : (f : CallState) → c.state ≡ f →
            CallIs c (leg_kind (leg_at s r.back (node_at r.back_plan 0)) ≡ ArmedLeg)
        go Guarded is =
            Waits is (guarded-unhit c.state (has_any c.work_reports) (has_any c.back_reports) fit.reports is)
        go Turning is =
            let armed : named-back.leg.0.phase ≡ Armed =
            (let e = turning-armed c.state (Some named-work.leg.0.phase) (Some named-back.leg.0.phase) state-fits is in
            cc e) in
            IsTurning is (rw (back-here, armed) refl)
        go Turned is = IsTurned is
        go Stuck is = absurd (unstuck is)
        go Asking is = absurd (let never : has_backup Asking ≡ true = subst (λ x. has_backup x ≡ true) is backed in cc never)
        go Bare is = absurd (let never : has_backup Bare ≡ true = subst (λ x. has_backup x ≡ true) is backed in cc never)
        go Pairing is = absurd (let never : has_backup Pairing ≡ true = subst (λ x. has_backup x ≡ true) is backed in cc never)
        go Blocked is = absurd (let never : has_backup Blocked ≡ true = subst (λ x. has_backup x ≡ true) is backed in cc never)

    turns : (leg : Leg) → leg_at s r.back (node_at r.back_plan 0) ≡ Some leg → leg.phase ≡ Armed → c.state ≡ Turning
    turns leg here armed =
        let one = back-first leg here in
        let phase : named-back.leg.0.phase ≡ Armed = sym (ap (λ (x : Leg). x.phase) one) ∙ armed in
        armed-turning c.state (Some named-work.leg.0.phase) (Some named-back.leg.0.phase) state-fits (ap Some phase)

    tells : PlaceTells s r.work r.work_plan.route r.work_plan.egress r.place r.link
        (node_at r.work_plan (suc r.place))
    tells =
        let here : leg_at s r.work r.work.ingress ≡ Some named-work.leg.0 =
        subst (λ m. find_leg r.work (s.nodes m).legs ≡ Some named-work.leg.0) (sym named-work.ingress)
        named-work.leg.1 in
        let all : RouteTells t s r.work r.work_plan.route r.work_plan.egress =
        subst (RouteTells t s r.work r.work_plan.route) (named-work.leg.3 ∙ work_end)
        (every_report_tells t events valid run r.work r.work_plan.route named-work.leg.0 work_sent here) in
        subst (PlaceTells s r.work r.work_plan.route r.work_plan.egress r.place r.link)
        (place-is r.work_plan.route r.work_plan.egress (suc r.place))
        (all r.place hop r.link there link_found upright)
      where
        upright : StandsTo s r.work r.work_plan.route r.work_plan.egress (suc r.place)
        upright j small =
            let at_place = stands j (let less = fixed.within in omega (arith, small, less)) in
            subst (λ (x : NodeId). is_standing (leg_at s r.work x) ≡ true)
            (sym (place-is r.work_plan.route r.work_plan.egress j)) (rw (at_place.1, at_place.2) refl)

    -- What the laws tell.
    pub scene : Scene t r (after t start events)
    scene = record {
      work_for = work-there.purpose;
      back_for = back-there.purpose;
      work_chain = work-there.chain;
      back_chain = back-there.chain;
      stands = stands;
      reserved = back-there.along;
      uncontended = uncontended;
      call = c;
      found = found;
      named_work = call-is n (s.nodes n) r.work named-work.leg.0 c (every_call t events run n) in-calls
          (rw (is_work, same_lsp-refl r.work) refl) named-work.ingress named-work.leg.1 (rw work-live refl);
      named_back = call-is n (s.nodes n) r.back named-back.leg.0 c (every_call t events run n) in-calls
          (names-back c r.back is_back) named-back.ingress named-back.leg.1
          (beyond-stands named-back.leg.0.phase back-beyond);
      is_work = is_work;
      unhit = unhit;
      is = state-is;
      turning = turns;
      tells = tells;
    }
