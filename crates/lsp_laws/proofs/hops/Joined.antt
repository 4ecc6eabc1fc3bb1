-- A call that stands is cross-connected from end to end, and the backup of a guarded call is reserved from
-- end to end,
-- while legs of it may still be cross-connected after the call went back.
use Rattle.std.proofs.{Common.{◌≡◌, ◌<◌, ℕ, suc, true, List, length, refl, sym, ap, ◌∙◌, subst, inl, Bool}, lemmas.Option.slice_get_within, lemmas.List.Elements.All-from_recursion}
use Rattle.std.specs.Prelude.{slice_get, Option, Some, None, IfSome}
use Rattle.ason_base.specs.{Network.{Network, other_end}, declared.ids.CallNo.CallNo, declared.ids.Lsp.Lsp, declared.ids.NodeId.NodeId, declared.steps.Step.Step, declared.calls.CallState.CallState, declared.calls.CallState.TheVariants.{Asking, Bare, Pairing, Guarded, Turning, Turned, Stuck, Blocked}, declared.calls.Phase.Phase, declared.calls.Phase.TheVariants.{Asked, Held, Armed, Live}, declared.calls.Role.Role, declared.calls.Role.TheVariants.{Work, Back}, declared.tables.CallRec.CallRec, declared.tables.Leg.Leg}
use Rattle.mesh_rules.specs.{declared.events.MeshEvent.MeshEvent, Calls.find_call, Legs.{find_leg, leg_of}, Machine.{Mesh, start}, Pairs.is_two_way, Events.{IsRun, after, route_of}}
use Rattle.lsp_laws.specs.{CallLaw.{FitsLegs, IsNamed, phases_fit, phase_of}, HopLaw.{leg_at, mail_between, StepFits, RouteFits}, JoinedLaw.{HasItsLabel, HopIsJoined, IsHeldOrLive, IsJoined, IsJoinedFor, IsLive, LspIsJoined, goes_both_ways, CallIsJoined, EveryCallIsJoined, IsConnected}, LabelLaw.{BackLabelsFit, HasBackLabels}}
use Rattle.mesh_nodes.proofs.CallList.{all-calls_found}
use Rattle.lsp_laws.proofs.{nodes.Facts.MeshFacts, nodes.NodeRuns.facts-hold, hops.Plans.{Plan, plan, node_at}, hops.Purposes.{Purpose, purpose_role}, hops.Chain.Chain, hops.Planned.{Routes, Planned, Follows}, hops.Law.{link_there, node_is, far_is, route_fits}, hops.JoinedLegs.{GoesAlong, InPhase, JoinedLegs, held_along, joined_legs, labelled_along, live_along, takes_back}, hops.HopLaws.follows, hops.NamedPhases.named_is}

-- the phases of a call's legs, in each of its states that has them
abbrev PhasesOf : CallState → Option Phase → Option Phase → Type 0
PhasesOf Asking w b = Unit {0}
PhasesOf Bare w b = w ≡ Some Live
PhasesOf Pairing w b = w ≡ Some Live
PhasesOf Guarded w b = (w ≡ Some Live) × (b ≡ Some Held)
PhasesOf Turning w b = (w ≡ Some Live) × (b ≡ Some Armed)
PhasesOf Turned w b = (w ≡ Some Live) × (b ≡ Some Live)
PhasesOf Stuck w b = (w ≡ Some Live) × (b ≡ Some Held)
PhasesOf Blocked w b = Unit {0}

phases_of : (state : CallState) (w b : Option Phase) → phases_fit state w b ≡ true → PhasesOf state w b
phases_of Bare (Some Live) None e = refl
phases_of Pairing (Some Live) (Some Asked) e = refl
phases_of Guarded (Some Live) (Some Held) e = (refl, refl)
phases_of Turning (Some Live) (Some Armed) e = (refl, refl)
phases_of Turned (Some Live) (Some Live) e = (refl, refl)
phases_of Stuck (Some Live) (Some Held) e = (refl, refl)
phases_of Asking w b e = tt
phases_of Blocked w b e = tt
phases_of state w b e = absurd (cc e)

module _ (t : Network) (events : List MeshEvent) (run : IsRun t start events) where
  abbrev s : Mesh
  s = after t start events

  abbrev o : Routes
  o = route_of t start events

  hop_joined : (r : Role) (P : Phase → Type 0) (two_way : Bool) (l : Lsp) (hop : Step) (st : StepFits t s r l hop) →
      JoinedLegs s l P two_way hop.node (other_end st.link hop.node) → HopIsJoined t s P two_way l hop
  hop_joined r P two_way l hop st h = record {
    link = st.link;
    found = st.found;
    from = h.from;
    to = h.to;
    from_there = h.from_there;
    to_there = h.to_there;
    from_phase = h.from_phase;
    to_phase = h.to_phase;
    label = h.label;
    leaves = h.leaves;
    enters = h.enters;
    out_fibre = st.fits.out_fibre h.from h.from_there;
    in_fibre = st.fits.in_fibre h.to h.to_there;
    back = h.back;
    both_ways = h.both_ways;
  }

  backs : (l : Lsp) (n : NodeId) (g : Leg) → leg_at s l n ≡ Some g → HasBackLabels g
  backs l n g here = (((facts-hold t events run).node n.0).leg l g here).back

  module _ (P : Phase → Type 0) (along : (q : Purpose) (l : Lsp) (p : Plan) →
      Chain t q l p (leg_at s l) (mail_between s l) → GoesAlong t s q l p P) where
    -- an LSP whose leg at the ingress is in such a phase
    module _ (l : Lsp) (g : Leg) (here : leg_at s l l.ingress ≡ Some g) (in_phase : P g.phase) where
      along_route : (q : Purpose) (steps : List Step) (e : NodeId) → o l ≡ Some steps →
          (pl : Planned t s o l q (plan steps e)) → LspIsJoined t events P (is_two_way g) g.egress l
      along_route q steps e is pl =
          let fits : RouteFits t s (purpose_role q) l steps e = route_fits t s o l q steps e pl in
          let first : InPhase s l P (node_at (plan steps e) 0) = rw pl.route.first (g, here, in_phase) in
          record {
            route = steps;
            sent = is;
            leads = rw (fits.ends l.ingress g here) fits.leads;
            hops = λ i hop there. at_step i hop there (fits.hops i hop there) (slice_get_within steps i hop there)
                first;
          }
        where
          -- the leg at the ingress
          way : (h : Leg) → leg_at s l (node_at (plan steps e) 0) ≡ Some h → BackLabelsFit (is_two_way g) h
          way h there =
              let at_first : leg_at s l (node_at (plan steps e) 0) ≡ Some g = rw pl.route.first here in
              let one : g ≡ h = cc (at_first, there) in
              let has = backs l l.ingress g here in
              let two_way : is_two_way g ≡ has.0 =
              takes_back t s q l (plan steps e) pl.chain P (along q l (plan steps e) pl.chain) (backs l) has.0 0 g
              pl.route.long at_first has.1 in
              subst (BackLabelsFit (is_two_way g)) one (subst (λ b. BackLabelsFit b g) (sym two_way) has.1)

          at_step : (i : ℕ) (hop : Step) → slice_get steps i ≡ Some hop → StepFits t s (purpose_role q) l hop →
              i < length steps → InPhase s l P (node_at (plan steps e) 0) → HopIsJoined t s P (is_two_way g) l hop
          at_step i hop there st below first =
              let p : Plan = plan steps e in
              let over = link_there t s o l q steps e pl i hop there below in
              let same_link : (pl.route.links i below).link ≡ st.link = (let found = st.found in cc (over, found)) in
              let far = far_is t s o l q steps e pl i hop there below ∙ ap (λ k. other_end k hop.node) same_link in
              let at_places : JoinedLegs s l P (is_two_way g) (node_at p i) (node_at p (suc i)) =
              joined_legs t s q l p pl.chain P (along q l p pl.chain) (backs l) (is_two_way g) first way i below in
              hop_joined (purpose_role q) P (is_two_way g) l hop st
              (subst (λ n. JoinedLegs s l P (is_two_way g) n (other_end st.link hop.node))
              (node_is t s o l q steps e pl i hop there)
              (subst (λ n. JoinedLegs s l P (is_two_way g) (node_at p i) n) far at_places))

      lsp_joined : (c : Option (List Step)) → o l ≡ c → Follows t s o l c →
          LspIsJoined t events P (is_two_way g) g.egress l
      lsp_joined None is follow = absurd (let none = follow.legs l.ingress in cc (none, here))
      lsp_joined (Some steps) is (e, q, pl) = along_route q steps e is pl

    -- an LSP that a call names, whose leg is in this phase
    named_joined : (f : Phase) → P f → (n : ℕ) (r : Role) (e : NodeId) (w : Option Lsp) →
        IfSome w (IsNamed n (s.nodes n).lsp (s.nodes n).legs r e) →
        phase_of (leg_of w (s.nodes n).legs) ≡ Some f → IsJoined t events P (goes_both_ways s w) e w
    named_joined f has n r e None named is = absurd (cc is)
    named_joined f has n r e (Some l) named is =
        let g : Leg = named.leg.0 in
        let here : leg_at s l l.ingress ≡ Some g =
        subst (λ m. find_leg l (s.nodes m).legs ≡ Some named.leg.0) (sym named.ingress) named.leg.1 in
        let phase_is : Some g.phase ≡ Some f = rw named.leg.1 at is in
        let in_phase : P g.phase = subst P (sym (cc phase_is)) has in
        let way : is_two_way g ≡ goes_both_ways s (Some l) = rw here refl in
        subst (λ b. LspIsJoined t events P b e l) way
        (subst (λ d. LspIsJoined t events P (is_two_way g) d l) named.leg.3
        (lsp_joined l g here in_phase (o l) refl (follows t events run l)))

  live_goes : (q : Purpose) (l : Lsp) (p : Plan) → Chain t q l p (leg_at s l) (mail_between s l) →
      GoesAlong t s q l p IsLive
  live_goes q l p chain = live_along t s q l p chain

  held_goes : (q : Purpose) (l : Lsp) (p : Plan) → Chain t q l p (leg_at s l) (mail_between s l) →
      GoesAlong t s q l p IsHeldOrLive
  held_goes q l p chain = held_along t s q l p chain

  labelled_goes : (q : Purpose) (l : Lsp) (p : Plan) → Chain t q l p (leg_at s l) (mail_between s l) →
      GoesAlong t s q l p HasItsLabel
  labelled_goes q l p chain = labelled_along t s q l p chain

  module _ (n : ℕ) (c : CallRec) (facts : FitsLegs n (s.nodes n).lsp (s.nodes n).legs c) where
    work_joined : phase_of (leg_of c.work (s.nodes n).legs) ≡ Some Live → IsConnected t events c
    work_joined is = named_joined IsLive live_goes Live refl n Work c.egress c.work facts.work is

    at_ingress : (r : Role) (o : Option Lsp) (l : Lsp) →
        IfSome o (IsNamed n (s.nodes n).lsp (s.nodes n).legs r c.egress) → o ≡ Some l →
        (g : Leg) × (leg_at s l l.ingress ≡ Some g) × (find_leg l (s.nodes n).legs ≡ Some g)
    at_ingress r o l named is =
        let its = named_is n (s.nodes n).lsp (s.nodes n).legs r c.egress o l named is in (
          its.leg.0,
          subst (λ m. find_leg l (s.nodes m).legs ≡ Some its.leg.0) (sym its.ingress) its.leg.1,
          its.leg.1,
        )

    -- the backup goes both ways where the working LSP does
    alike : (f e : Phase) → phase_of (leg_of c.work (s.nodes n).legs) ≡ Some f →
        phase_of (leg_of c.back (s.nodes n).legs) ≡ Some e → goes_both_ways s c.back ≡ goes_both_ways s c.work
    alike f e work back = go c.work c.back refl refl work back
      where
        go : (w b : Option Lsp) → c.work ≡ w → c.back ≡ b → phase_of (leg_of w (s.nodes n).legs) ≡ Some f →
            phase_of (leg_of b (s.nodes n).legs) ≡ Some e → goes_both_ways s b ≡ goes_both_ways s w
        go None b is_w is_b work back = absurd (cc work)
        go (Some w) None is_w is_b work back = absurd (cc back)
        go (Some w) (Some b) is_w is_b work back =
            let g = at_ingress Work c.work w facts.work is_w in
            let h = at_ingress Back c.back b facts.back is_b in
            rw (g.1, h.1) (facts.ways w b g.0 h.0 is_w is_b g.2 h.2)

    back_joined : (P : Phase → Type 0) → ((q : Purpose) (l : Lsp) (p : Plan) →
        Chain t q l p (leg_at s l) (mail_between s l) → GoesAlong t s q l p P) → (f : Phase) → P f →
        phase_of (leg_of c.work (s.nodes n).legs) ≡ Some Live → phase_of (leg_of c.back (s.nodes n).legs) ≡ Some f →
        IsJoinedFor t events P c c.back
    back_joined P goes f has work is =
        subst (λ b. IsJoined t events P b c.egress c.back) (alike Live f work is)
        (named_joined P goes f has n Back c.egress c.back facts.back is)

    call_joined : (state : CallState) →
        PhasesOf state (phase_of (leg_of c.work (s.nodes n).legs)) (phase_of (leg_of c.back (s.nodes n).legs)) →
        CallIsJoined t events c state
    call_joined Asking phases = tt
    call_joined Bare phases = work_joined phases
    call_joined Pairing phases = work_joined phases
    call_joined Guarded phases =
        (work_joined phases.0, back_joined IsHeldOrLive held_goes Held (inl refl) phases.0 phases.1)
    call_joined Turning phases =
        (work_joined phases.0, back_joined HasItsLabel labelled_goes Armed refl phases.0 phases.1)
    call_joined Turned phases = (work_joined phases.0, back_joined IsLive live_goes Live refl phases.0 phases.1)
    call_joined Stuck phases =
        (work_joined phases.0, back_joined IsHeldOrLive held_goes Held (inl refl) phases.0 phases.1)
    call_joined Blocked phases = tt

-- the call of this number
pub call_joined_there : (t : Network) (events : List MeshEvent) → IsRun t start events → (n : ℕ) (k : CallNo)
    (c : CallRec) → find_call k ((after t start events).nodes n).calls ≡ Some c → CallIsJoined t events c c.state
call_joined_there t events run n k c found =
    let s : Mesh = after t start events in
    let fit = ((facts-hold t events run).node n).call k c found in
    call_joined t events run n c fit c.state
    (phases_of c.state (phase_of (leg_of c.work (s.nodes n).legs)) (phase_of (leg_of c.back (s.nodes n).legs))
    fit.state)

pub every_call_joined : EveryCallIsJoined
every_call_joined t events run n =
    let s : Mesh = after t start events in
    let facts : MeshFacts t s = facts-hold t events run in
    All-from_recursion (λ c. CallIsJoined t events c c.state) (s.nodes n).calls
    (all-calls_found (λ c. CallIsJoined t events c c.state) (s.nodes n).calls (facts.node n).calls_rise
    (call_joined_there t events run n))
