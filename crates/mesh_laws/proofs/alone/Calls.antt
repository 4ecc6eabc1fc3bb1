-- What is decided of a call concerns one of the groups: it turns only where one is a risk of its working LSP's route,
-- which its backup's legs record, and it is stuck only where there are two, since none is a risk of both routes. It
-- goes back whatever fails, since a Held leg concerns any group.
use Rattle.std.proofs.Common.{◌≡◌, ℕ, Bool, true, false, List, [], refl, sym, ap, ◌∙◌, subst}
use Rattle.std.specs.{Prelude.{◌&&◌, ◌||◌, Option, Some, None}, List.AllByRecursion}
use Rattle.ason_base.specs.{Codes.busy_code, Lsps.is_lsp, Network.Network, declared.ids.Lsp.Lsp, declared.calls.CallState.CallState, declared.calls.CallState.TheVariants.{Asking, Bare, Blocked, Guarded, Pairing, Stuck, Turned, Turning}, declared.calls.Cause.Cause, declared.calls.Cause.TheVariants.{Code, Unset}, declared.calls.Phase.TheVariants.Held, declared.commands.Group.Group, declared.messages.PathRole.PathRole, declared.messages.PathRole.TheVariants.{Work, Back}, declared.steps.Step.Step, declared.tables.CallRec.CallRec, declared.tables.Leg.Leg}
use Rattle.ason_base.proofs.Finding.{found-of_all}
use Rattle.mesh_rules.specs.{declared.neighbours.Neighbour.Neighbour, Activations.taken_on, Calls.{blocked, call_with, is_stuck, names, pairing, stuck, unbacked}, Legs.{find_leg, following, is_contended, is_held, is_in_use, is_work, leg_of, with_phase}, LocalNodes.LocalNode, Pairs.beside_lsp, State.NodeState, Turns.{activating, arms, call_put, decide, decided, disarms, go_back, has_any, taking_back, turn, turn_to}}
use Rattle.mesh_nodes.proofs.{CallList.called-names, Cases.if_cases, LegList.found-lsp}
use Rattle.lsp_laws.specs.CallLaw.{GuardsWork}
use Rattle.lsp_laws.proofs.nodes.CallParts.{lsp-is}
use Rattle.mesh_laws.specs.AloneLaw.{is_of_busy}
use Rattle.mesh_laws.proofs.{alone.Facts.{CallKnows, NodeKnows, LspRoutes, RecordsRoute as RecordsPrimary}, alone.Fine.{CallHolds, Fine, IsExposed, NodeHolds, OutFine, fine-call}, alone.Groups.{RoleConcerns, are_many, has_one, any_on_route}, alone.Legs.{BackupsApart, idle-concerns, not_contended}, alone.RouteRisks.{beside-many, recorded-one}}

-- Finding

-- A call that may turn

-- the backup's leg records one of the groups, and so its Path that activates concerns one
pub record MayTurnBackup (t : Network) (gs : List Group) (b : Leg) : Type 0 where
  pub records : has_one b.risks gs ≡ true
  pub role : RoleConcerns t gs (activating b.path_role)

-- where there is one, and no label of it is in use among these legs
abbrev pub LegMayTurn : Network → List Group → List Leg → Option Leg → Type 0
LegMayTurn t gs legs None = Unit {0}
LegMayTurn t gs legs (Some b) = MayTurnBackup t gs b × (is_contended legs b ≡ false)

module _ (t : Network) (gs : List Group) (o : LspRoutes) where
  -- a call in another state, with the same LSPs and reports
  pub in_state : (c : CallRec) (state : CallState) (cause : Cause) (ticks : ℕ) →
      (state ≡ Stuck → are_many gs ≡ true) → (is_stuck state && is_of_busy cause) ≡ false → CallHolds t gs o c →
      CallHolds t gs o (record c { state = state; cause = cause; ticks = ticks })
  in_state c state cause ticks free admitted holds = record {
    concerns = record {
      work_reports = holds.concerns.work_reports;
      back_reports = holds.concerns.back_reports;
      free = free;
      admitted = admitted;
    };
    work = holds.work;
    back = holds.back;
  }

  -- a call of whose backup nothing is reported yet, or which has none any more
  new_back-holds : (c : CallRec) (state : CallState) (back : Option Lsp) (cause : Cause) → is_stuck state ≡ false →
      CallHolds t gs o c →
      CallHolds t gs o (record c { state = state; back = back; back_reports = []; cause = cause; ticks = 0 })
  new_back-holds c state back cause free holds = record {
    concerns = record {
      work_reports = holds.concerns.work_reports;
      back_reports = tt;
      free = λ e. absurd (let stuck = ap is_stuck e in cc (stuck, free));
      admitted = rw free refl;
    };
    work = holds.work;
    back = λ e. absurd (cc e);
  }

  pub unbacked-holds : (c : CallRec) (cause : Cause) → CallHolds t gs o c → CallHolds t gs o (unbacked c cause)
  unbacked-holds c cause holds = new_back-holds c Bare None cause refl holds

  pub pairing-holds : (c : CallRec) (l : Lsp) → CallHolds t gs o c → CallHolds t gs o (pairing c l)
  pairing-holds c l holds = new_back-holds c Pairing (Some l) Unset refl holds

  -- a call that is blocked
  pub blocked-holds : (c : CallRec) (cause : Cause) → CallHolds t gs o c → CallHolds t gs o (blocked c cause)
  blocked-holds c cause holds = record {
    concerns = record {
      work_reports = tt;
      back_reports = holds.concerns.back_reports;
      free = λ e. absurd (cc e);
      admitted = refl;
    };
    work = λ e. absurd (cc e);
    back = holds.back;
  }

  -- Turning

  -- a Path of the backup to the next node, if there is one
  path-fine : (b : Leg) (r : PathRole) → RoleConcerns t gs r → (h : Option Neighbour) →
      AllByRecursion (OutFine t gs) (taken_on b b.route r h)
  path-fine b r of None = tt
  path-fine b r of (Some h) = (of, tt)

  arms-fine : (c : CallRec) (b : Leg) → CallHolds t gs o c → MayTurnBackup t gs b → Fine t gs o (arms c b)
  arms-fine c b holds may = record {
    legs = ((λ mark. may.records), tt);
    calls = (in_state c Turning _ _ (λ e. absurd (cc e)) refl holds, tt);
    down = tt;
    sent = path-fine b (activating b.path_role) may.role (following b);
  }

  -- a call turns where its backup's leg records one of the groups: no label of that is in use
  pub turn-fine : (legs : List Leg) (c : CallRec) (b : Option Leg) → CallHolds t gs o c → LegMayTurn t gs legs b →
      Fine t gs o (turn legs c b)
  turn-fine legs c None holds may = fine-call t gs o c holds
  turn-fine legs c (Some b) holds may =
      if_cases (Fine t gs o) (is_held b.phase) (turn_to legs c b) (call_put c)
      (λ e. if_cases (Fine t gs o) (is_contended legs b) (call_put (stuck c (Code busy_code))) (arms c b)
      (λ busy. let free = may.1 in absurd (cc (busy, free))) (λ free. arms-fine c b holds may.0))
      (λ e. fine-call t gs o c holds)

  -- Going back

  -- a Path that takes an activation back concerns any group
  passive-back : (r : PathRole) → RoleConcerns t gs (taking_back r)
  passive-back (Work guard) = tt
  passive-back (Back active work primary) = tt

  disarms-fine : (c : CallRec) (b : Leg) → CallHolds t gs o c → Fine t gs o (disarms c b)
  disarms-fine c b holds = record {
    legs = (idle-concerns gs (with_phase Held b) refl, tt);
    calls = (in_state c Guarded _ _ (λ e. absurd (cc e)) refl holds, tt);
    down = tt;
    sent = path-fine b (taking_back b.path_role) (passive-back b.path_role) (following b);
  }

  -- a call goes back whatever fails
  pub go_back-fine : (c : CallRec) (b : Option Leg) → CallHolds t gs o c → Fine t gs o (go_back c b)
  go_back-fine c None holds = fine-call t gs o c holds
  go_back-fine c (Some b) holds =
      if_cases (Fine t gs o) (is_in_use b.phase) (disarms c b) (call_put c) (λ e. disarms-fine c b holds)
      (λ e. fine-call t gs o c holds)

  -- Decisions

  -- a turned call goes back or stays
  pub turned-fine : (legs : List Leg) (c : CallRec) (b : Option Leg) (works backs : Bool) → CallHolds t gs o c →
      Fine t gs o (decided legs c b Turned works backs)
  turned-fine legs c b false true holds = go_back-fine c b holds
  turned-fine legs c b false false holds = fine-call t gs o c holds
  turned-fine legs c b true backs holds = fine-call t gs o c holds

  decided-fine : (legs : List Leg) (c : CallRec) (b : Option Leg) (state : CallState) (works backs : Bool) →
      (works ≡ true → LegMayTurn t gs legs b) → (works ≡ true → backs ≡ true → are_many gs ≡ true) →
      CallHolds t gs o c → Fine t gs o (decided legs c b state works backs)
  decided-fine legs c b Guarded true false may many holds = turn-fine legs c b holds (may refl)
  decided-fine legs c b Guarded true true may many holds =
      fine-call t gs o _ (in_state c Stuck _ _ (λ e. many refl refl) refl holds)
  decided-fine legs c b Guarded false backs may many holds = fine-call t gs o c holds
  decided-fine legs c b Stuck false backs may many holds =
      fine-call t gs o _ (in_state c Guarded _ _ (λ e. absurd (cc e)) refl holds)
  decided-fine legs c b Stuck true backs may many holds = fine-call t gs o c holds
  decided-fine legs c b Asking works backs may many holds = fine-call t gs o c holds
  decided-fine legs c b Bare works backs may many holds = fine-call t gs o c holds
  decided-fine legs c b Blocked works backs may many holds = fine-call t gs o c holds
  decided-fine legs c b Pairing works backs may many holds = fine-call t gs o c holds
  decided-fine legs c b Turned works backs may many holds = turned-fine legs c b works backs holds
  decided-fine legs c b Turning works backs may many holds = fine-call t gs o c holds

  module _ (p : LocalNode) (s : NodeState) (knows : NodeKnows t o p s) (holds : NodeHolds t gs o s) where
    -- the working route has one of the groups: the backup's leg records it
    pub may-turn : (c : CallRec) (l : Lsp) (b : Leg) → CallKnows t o s.legs c → IsExposed t gs o c.work →
        c.back ≡ Some l → find_leg l s.legs ≡ Some b → MayTurnBackup t gs b
    may-turn c l b call exposed is found = go c.work refl exposed
      where
        told : (w : Lsp) (route : List Step) (r : PathRole) → o w ≡ Some route → any_on_route t gs route ≡ true →
            GuardsWork w l r → RecordsPrimary t o b r →
            (has_one b.risks gs ≡ true) × RoleConcerns t gs (activating r)
        told w route (Work guard) sent on guards records = absurd guards
        told w route (Back active n primary) sent on guards records =
            let own : b.lsp ≡ l = found-lsp l s.legs b found in
            let of : o w ≡ Some primary = ap o (guards ∙ ap (λ k. beside_lsp k n) (sym own)) ∙ records.0 in
            let one : route ≡ primary = cc (sent, of) in
            let on_primary : any_on_route t gs primary ≡ true = subst (λ x. any_on_route t gs x ≡ true) one on in (
              subst (λ x. has_one x gs ≡ true) (sym records.1) (recorded-one t gs primary on_primary),
              on_primary,
            )

        go : (w : Option Lsp) → c.work ≡ w → IsExposed t gs o w → MayTurnBackup t gs b
        go None at_w exposed = absurd exposed
        go (Some w) at_w (route, sent, on) =
            let both = told w route b.path_role sent on (call.guards w l b at_w is found)
            (knows.records l b found (call.back_role l b is found)) in
            record { records = both.0; role = both.1 }

    -- the leg of the call's backup, as it stands
    pub leg-may_turn : BackupsApart gs s.legs → (c : CallRec) → CallKnows t o s.legs c → IsExposed t gs o c.work →
        (l : Option Lsp) → c.back ≡ l → LegMayTurn t gs s.legs (leg_of l s.legs)
    leg-may_turn apart c call exposed None is = tt
    leg-may_turn apart c call exposed (Some l) is = go (find_leg l s.legs) refl
      where
        go : (b : Option Leg) → find_leg l s.legs ≡ b → LegMayTurn t gs s.legs b
        go None found = tt
        go (Some b) found =
            let may = may-turn c l b call exposed is found in (
              may,
              not_contended gs s.legs knows.rise holds.legs b (knows.shares l b found) (apart l b found)
                  (λ back. may.records),
            )

    -- no group is a risk of both routes
    many : (c : CallRec) → CallKnows t o s.legs c → IsExposed t gs o c.work → IsExposed t gs o c.back →
        are_many gs ≡ true
    many c call = go c.work c.back refl refl
      where
        go : (w b : Option Lsp) → c.work ≡ w → c.back ≡ b → IsExposed t gs o w → IsExposed t gs o b →
            are_many gs ≡ true
        go None b at_w at_b x y = absurd x
        go (Some w) None at_w at_b x y = absurd y
        go (Some w) (Some b) at_w at_b (primary, sent, on) (backup, sent', on') =
            beside-many t gs primary backup (call.apart w b primary backup at_w at_b sent sent') on on'

    -- c is the call as it is decided of, with the LSPs of a call that stands
    pub decide-fine : (c was : CallRec) (b : Option Leg) → CallKnows t o s.legs was → c.work ≡ was.work →
        c.back ≡ was.back → CallHolds t gs o c → (IsExposed t gs o was.work → LegMayTurn t gs s.legs b) →
        Fine t gs o (decide s.legs c b)
    decide-fine c was b call same_work same_back of may =
        decided-fine s.legs c b c.state (has_any c.work_reports) (has_any c.back_reports)
        (λ works. may (subst (IsExposed t gs o) same_work (of.work works)))
        (λ works backs. many was call (subst (IsExposed t gs o) same_work (of.work works))
        (subst (IsExposed t gs o) same_back (of.back backs))) of

    -- what is known of the call of an LSP
    pub called-knows : (l : Lsp) (c : CallRec) → call_with l s.calls ≡ Some c → CallKnows t o s.legs c
    called-knows l c called = found-of_all (CallKnows t o s.legs) (names l) s.calls c called knows.calls

    -- and what holds of it
    pub called-holds : (l : Lsp) (c : CallRec) → call_with l s.calls ≡ Some c → CallHolds t gs o c
    called-holds l c called = found-of_all (CallHolds t gs o) (names l) s.calls c called holds.calls

    -- a leg that isn't a working one is the backup of its call
    pub its-backup : (b : Leg) (c : CallRec) → find_leg b.lsp s.legs ≡ Some b → is_work b.role ≡ false →
        call_with b.lsp s.calls ≡ Some c → c.back ≡ Some b.lsp
    its-backup b c here back called = go (is_lsp c.work b.lsp) refl (called-names b.lsp s.calls c called)
      where
        go : (x : Bool) → is_lsp c.work b.lsp ≡ x → (x || is_lsp c.back b.lsp) ≡ true → c.back ≡ Some b.lsp
        go true e named =
            let work = (called-knows b.lsp c called).work_role b.lsp b (lsp-is c.work b.lsp e) here in
            let is : is_work b.role ≡ true = ap is_work work in
            absurd (cc (is, back))
        go false e named = lsp-is c.back b.lsp named
