-- Once nothing is under way each leg is of a call, and no call waits.
use Rattle.std.proofs.{Common.{◌≡◌, ℕ, true, false, List, [], ◌∷◌, refl, sym, ap, ◌∙◌, subst, inl, inr}, lemmas.List.Elements.All-from_recursion}
use Rattle.std.specs.{Prelude.{◌⊎◌, Option, Some, None}, List.AllByRecursion}
use Rattle.ason_base.specs.{Network.Network, declared.calls.CallState.CallState, declared.calls.Phase.Phase, declared.calls.Phase.TheVariants.{Asked, Armed}, declared.calls.Role.Role, declared.calls.Role.TheVariants.{Work, Back}, declared.ids.CallNo.CallNo, declared.ids.Lsp.Lsp, declared.ids.NodeId.NodeId, declared.steps.Step.Step, declared.tables.CallRec.CallRec, declared.tables.Leg.Leg, Routes.makes_route}
use Rattle.mesh_rules.specs.{declared.events.MeshEvent.MeshEvent, Calls.{find_call, names}, Events.{IsRun, after, route_of}, Legs.{find_leg, is_closing, leg_of}, Machine.{Mesh, start}, Quiet.IsQuiet}
use Rattle.mesh_nodes.proofs.{CallList.all-calls_found, LegList.{all-found, found-lsp}}
use Rattle.lsp_laws.specs.{CallLaw.{FitsLegs, phase_of}, HopLaw.{IsNodeOnRoute, LspFits, RouteFits, leg_at}, ReportLaw.place_at}
use Rattle.lsp_laws.proofs.{hops.HopLaws.every_hop, hops.NamedPhases.{named_phase, named_is}, nodes.CallParts.named-by, nodes.Facts.{HasCall, MeshFacts}, nodes.NodeRuns.facts-hold, nodes.States.{AskingRow, BareRow, BlockedRow, GuardedRow, PairingRow, Row, StuckRow, TurnedRow, TurningRow, row}}
use Rattle.mesh_laws.specs.RestedLaw.{IsOfCall, NothingIsLeft, NothingIsLeftAtRest, StandsAlong, is_call_settled, rested_phase}
use Rattle.mesh_laws.proofs.rested.Alike.{IsHeld, IsLive, RestsInPhase, leg-first, leg-rests, leg-there}

-- a leg that rests isn't torn
pub rests-stands : (q : Phase) → RestsInPhase q → is_closing q ≡ false
rests-stands _ IsHeld = refl
rests-stands _ IsLive = refl

-- the leg of an LSP that a call names, where its phase is known
pub phase-there : (o : Option Lsp) (legs : List Leg) (q : Phase) → phase_of (leg_of o legs) ≡ Some q →
    (l : Lsp) × (g : Leg) × (o ≡ Some l) × (find_leg l legs ≡ Some g) × (g.phase ≡ q)
phase-there None legs q e = absurd (cc e)
phase-there (Some l) legs q e = go (find_leg l legs) refl e
  where
    go : (x : Option Leg) → find_leg l legs ≡ x → phase_of x ≡ Some q →
        (k : Lsp) × (g : Leg) × (Some l ≡ Some k) × (find_leg k legs ≡ Some g) × (g.phase ≡ q)
    go None is e = absurd (cc e)
    go (Some g) is e = (l, g, refl, is, (cc e))

-- the working LSP's leg, and the backup's, of a call that doesn't wait

work-rested : (f : CallState) (q : Phase) (b : Option Phase) → Row f (Some q) b → is_call_settled f ≡ true →
    rested_phase f Work ≡ Some q
work-rested _ _ _ AskingRow settled = absurd (cc settled)
work-rested _ _ _ BareRow settled = refl
work-rested _ _ _ PairingRow settled = absurd (cc settled)
work-rested _ _ _ GuardedRow settled = refl
work-rested _ _ _ TurningRow settled = absurd (cc settled)
work-rested _ _ _ TurnedRow settled = refl
work-rested _ _ _ StuckRow settled = refl

back-rested : (f : CallState) (w : Option Phase) (q : Phase) → Row f w (Some q) → is_call_settled f ≡ true →
    rested_phase f Back ≡ Some q
back-rested _ _ _ PairingRow settled = absurd (cc settled)
back-rested _ _ _ GuardedRow settled = refl
back-rested _ _ _ TurningRow settled = absurd (cc settled)
back-rested _ _ _ TurnedRow settled = refl
back-rested _ _ _ StuckRow settled = refl

-- the leg of an LSP that the call names
named-rested : (n next : ℕ) (legs : List Leg) (c : CallRec) (l : Lsp) (h : Leg) → FitsLegs n next legs c →
    is_call_settled c.state ≡ true → names l c ≡ true → find_leg l legs ≡ Some h →
    rested_phase c.state h.role ≡ Some h.phase
named-rested n next legs c l h fit settled names-it here = elim (named-by c l names-it) [
  | inl is ↦ working is
  | inr is ↦ backing is
]
  where
    at_row : Row c.state (phase_of (leg_of c.work legs)) (phase_of (leg_of c.back legs))
    at_row = row c.state _ _ fit.state

    working : c.work ≡ Some l → rested_phase c.state h.role ≡ Some h.phase
    working is =
        let named = named_is n next legs Work c.egress c.work l fit.work is in
        let one : named.leg.0 ≡ h = (let x = named.leg.1 in cc (x, here)) in
        let work : h.role ≡ Work = ap (λ (x : Leg). x.role) (sym one) ∙ named.leg.2 in
        let phase : phase_of (leg_of c.work legs) ≡ Some h.phase =
        named_phase n next legs Work c.egress c.work l h is here in
        let at_work : Row c.state (Some h.phase) (phase_of (leg_of c.back legs)) =
        subst (λ w. Row c.state w (phase_of (leg_of c.back legs))) phase at_row in
        ap (rested_phase c.state) work ∙ work-rested c.state h.phase _ at_work settled

    backing : c.back ≡ Some l → rested_phase c.state h.role ≡ Some h.phase
    backing is =
        let named = named_is n next legs Back c.egress c.back l fit.back is in
        let one : named.leg.0 ≡ h = (let x = named.leg.1 in cc (x, here)) in
        let back : h.role ≡ Back = ap (λ (x : Leg). x.role) (sym one) ∙ named.leg.2 in
        let phase : phase_of (leg_of c.back legs) ≡ Some h.phase =
        named_phase n next legs Back c.egress c.back l h is here in
        let at_back : Row c.state (phase_of (leg_of c.work legs)) (Some h.phase) =
        subst (λ b. Row c.state (phase_of (leg_of c.work legs)) b) phase at_row in
        ap (rested_phase c.state) back ∙ back-rested c.state _ h.phase at_back settled

not-asked : (q : Phase) → RestsInPhase q → q ≡ Asked → ⊥
not-asked _ IsHeld e = cc e
not-asked _ IsLive e = cc e

not-armed : (q : Phase) → RestsInPhase q → q ≡ Armed → ⊥
not-armed _ IsHeld e = cc e
not-armed _ IsLive e = cc e

module _ (t : Network) (events : List MeshEvent) (run : IsRun t start events)
    (quiet : IsQuiet (after t start events)) where
  abbrev s : Mesh
  s = after t start events

  facts : MeshFacts t (after t start events)
  facts = facts-hold t events run

  -- an LSP that has a leg has a route
  pub record Routed (l : Lsp) : Type 0 where
    pub route : List Step
    pub sent : route_of t start events l ≡ Some route
    pub role : Role
    pub end : NodeId
    pub fits : RouteFits t (after t start events) role l route end

  -- the LSP of a leg was sent on a route
  pub routed : (l : Lsp) (n : NodeId) (g : Leg) → leg_at (after t start events) l n ≡ Some g → Routed l
  routed l n g here = go (route_of t start events l) refl ((every_hop t events run).1 l)
    where
      go : (o : Option (List Step)) → route_of t start events l ≡ o → LspFits t s l o → Routed l
      go None is blank = absurd (let none = blank.legs n in cc (none, here))
      go (Some route) is (r, e, fits) = record { route = route; sent = is; role = r; end = e; fits = fits }

  -- each leg rests
  pub rests : (l : Lsp) (n : NodeId) (g : Leg) → leg_at (after t start events) l n ≡ Some g → RestsInPhase g.phase
  rests l n g here =
      let its = routed l n g here in leg-rests t s quiet its.role l its.route its.end its.fits n g here

  -- Calls

  settled-call : (n : ℕ) (k : CallNo) (c : CallRec) → find_call k ((after t start events).nodes n).calls ≡ Some c →
      is_call_settled c.state ≡ true
  settled-call n k c found =
      go c.state _ _ (row c.state _ _ fit.state) refl refl
    where
      fit : FitsLegs n (s.nodes n).lsp (s.nodes n).legs c
      fit = (facts.node n).call k c found

      never : (o : Option Lsp) (q : Phase) → phase_of (leg_of o (s.nodes n).legs) ≡ Some q → (RestsInPhase q → ⊥) → ⊥
      never o q is cannot =
          let its = phase-there o (s.nodes n).legs q is in
          cannot (subst RestsInPhase its.4 (rests its.0 (record { 0 = n }) its.1 its.3))

      go : (f : CallState) (w b : Option Phase) → Row f w b → phase_of (leg_of c.work (s.nodes n).legs) ≡ w →
          phase_of (leg_of c.back (s.nodes n).legs) ≡ b → is_call_settled f ≡ true
      go _ _ _ AskingRow w b = absurd (never c.work Asked w (λ r. not-asked Asked r refl))
      go _ _ _ BareRow w b = refl
      go _ _ _ PairingRow w b = absurd (never c.back Asked b (λ r. not-asked Asked r refl))
      go _ _ _ GuardedRow w b = refl
      go _ _ _ TurningRow w b = absurd (never c.back Armed b (λ r. not-armed Armed r refl))
      go _ _ _ TurnedRow w b = refl
      go _ _ _ StuckRow w b = refl
      go _ _ _ BlockedRow w b = refl

  -- Legs

  leg-of-call : (n : NodeId) (l : Lsp) (g : Leg) → leg_at (after t start events) l n ≡ Some g → g.lsp ≡ l →
      IsOfCall (after t start events) g
  leg-of-call n l g here own =
      let its = routed l n g here in
      let first = leg-first t s quiet its.role l its.route its.end its.fits n g here in
      let at = facts.node l.ingress.0 in
      let stands : is_closing first.0.phase ≡ false = rests-stands first.0.phase (rests l l.ingress first.0 first.1) in
      let has : HasCall (s.nodes l.ingress.0).calls l = at.has_call l first.0 first.1 refl stands in
      let c : CallRec = has.call in
      let fit = at.call c.call c has.found in
      let settled = settled-call l.ingress.0 c.call c has.found in
      let role : first.0.role ≡ g.role =
      its.fits.roles l.ingress first.0 first.1 ∙ sym (its.fits.roles n g here) in
      record {
        call = c;
        there = subst (λ k. find_call c.call (s.nodes k.ingress.0).calls ≡ Some c) (sym own) has.found;
        named = subst (λ k. names k c ≡ true) (sym own) has.named;
        phase = ap (rested_phase c.state) (sym role)
            ∙ named-rested l.ingress.0 (s.nodes l.ingress.0).lsp (s.nodes l.ingress.0).legs c l first.0 fit settled
            has.named first.1
            ∙ ap Some first.2;
      }

  leg-along : (n : NodeId) (l : Lsp) (g : Leg) → leg_at (after t start events) l n ≡ Some g → g.lsp ≡ l →
      StandsAlong t events g
  leg-along n l g here own =
      let its = routed l n g here in
      let ends : g.egress ≡ its.end = its.fits.ends n g here in
      record {
        route = its.route;
        sent = subst (λ k. route_of t start events k ≡ Some its.route) (sym own) its.sent;
        leads = subst (λ k. makes_route t k.ingress g.egress its.route ≡ true) (sym own)
            (subst (λ k. makes_route t l.ingress k its.route ≡ true) (sym ends) its.fits.leads);
        all = λ i most.
            subst (λ k. (h : Leg) × (leg_at s k (place_at its.route g.egress i) ≡ Some h) × (h.phase ≡ g.phase)) (sym own)
            (subst (λ k. (h : Leg) × (leg_at s l (place_at its.route k i) ≡ Some h) × (h.phase ≡ g.phase)) (sym ends)
            (leg-there t s quiet its.role l its.route its.end its.fits n g here i most));
        only = λ m h there.
            subst (λ k. (m ≡ k) ⊎ IsNodeOnRoute its.route m) (sym ends)
            (its.fits.legs m h (subst (λ k. leg_at s k m ≡ Some h) own there));
      }

  -- each of them

  each-leg : (P : Leg → Type 0) →
      ((n : NodeId) (l : Lsp) (g : Leg) → leg_at (after t start events) l n ≡ Some g → g.lsp ≡ l → P g) → (n : ℕ) →
      AllByRecursion P ((after t start events).nodes n).legs
  each-leg P holds n =
      all-found P (s.nodes n).legs (facts.node n).legs_rise
      (λ l g found. holds (record { 0 = n }) l g found (found-lsp l (s.nodes n).legs g found))

  none-of : (legs : List Leg) → AllByRecursion (IsOfCall (after t start events)) legs →
      ((n : ℕ) → ((after t start events).nodes n).calls ≡ []) → legs ≡ []
  none-of [] each none = refl
  none-of (g ∷ legs) each none =
      let its = each.0 in
      absurd (let never : None ≡ Some its.call = rw (none g.lsp.ingress.0) at its.there in cc never)

  pub nothing_left : NothingIsLeft t events
  nothing_left = record {
    legs = λ n. All-from_recursion (IsOfCall s) (s.nodes n).legs (each-leg (IsOfCall s) leg-of-call n);
    along = λ n. All-from_recursion (StandsAlong t events) (s.nodes n).legs (each-leg (StandsAlong t events) leg-along n);
    calls = λ n. All-from_recursion (λ c. is_call_settled c.state ≡ true) (s.nodes n).calls
        (all-calls_found (λ c. is_call_settled c.state ≡ true) (s.nodes n).calls (facts.node n).calls_rise
        (settled-call n));
    emptied = λ none n. none-of (s.nodes n).legs (each-leg (IsOfCall s) leg-of-call n) none;
  }

-- over every network and every run
pub nothing_left_at_rest : NothingIsLeftAtRest
nothing_left_at_rest t events run quiet = nothing_left t events run quiet
