-- Once nothing is under way, while one group alone has failed, a guarded call is guarded or turned, and is restored.
use Rattle.std.proofs.{Common.{◌≡◌, ℕ, Bool, true, false, not, List, [], map, refl, sym, ap, subst, Contains}, lemmas.List.Elements.recursion_from_All, lemmas.Bool.not-true}
use Rattle.std.specs.Prelude.{Option, Some, None}
use Rattle.ason_base.specs.{Lsps.is_lsp, Network.{Network, is_distinct}, Risks.has_risk, Routes.routes_share_risk, declared.calls.CallState.CallState, declared.calls.CallState.TheVariants.{Asking, Bare, Pairing, Guarded, Turning, Turned, Stuck, Blocked}, declared.calls.Phase.Phase, declared.calls.Phase.TheVariants.{Asked, Held, Armed, Live}, declared.commands.Group.Group, declared.ids.Lsp.Lsp, declared.ids.NodeId.NodeId, declared.messages.PathRole.PathRole, declared.messages.PathRole.TheVariants.{Work, Back}, declared.steps.Step.Step, declared.tables.CallRec.CallRec, declared.tables.Leg.Leg}
use Rattle.ason_base.specs.declared.calls.Role.TheVariants as role
use Rattle.ason_base.proofs.Bools.{and-left, and-right}
use Rattle.mesh_rules.specs.{declared.events.MeshEvent.MeshEvent, Calls.call_with, Events.{after, route_of}, Legs.{find_leg, is_beyond_asked, is_closing, is_marked, leg_of}, Machine.{Mesh, start}, Quiet.IsQuiet, Turns.has_any}
use Rattle.mesh_nodes.proofs.LegList.{found-all, found-lsp, same_lsp-refl}
use Rattle.lsp_laws.specs.{BesideLaw.{BackupsGoBeside, CallGoesBeside}, CallLaw.{CallsFit, FitsLegs, GuardsWork, IsNamed, phases_fit, phase_of}, HopLaw.{LspFits, leg_at}, JoinedLaw.{CallIsJoined, CallsAreJoined, IsActivated, IsConnected, IsJoined, IsLive, LspIsJoined, goes_both_ways}, ReportLaw.{DesksTell, ReportsTell}, RiskLaw.{BackupsRecordRisks, RecordsRisks}}
use Rattle.lsp_laws.proofs.{nodes.TurnedCalls.none-reported, hops.NamedPhases.named_is}
use Rattle.mesh_laws.specs.{AloneLaw.{AllConcern, CallConcerns, LegConcerns, is_on_route, risk_of}, RestorationLaw.{IsRestored, is_guarded, is_lsp_hit, is_label_reserved, is_route_cut}}
use Rattle.mesh_laws.proofs.{alone.Risks.{not_beside, risk-recorded}, restoration.Called.call-is, restoration.Cuts.cut-concerns, restoration.Reported.unreported-up, restoration.Settled.never-armed}

-- the states of a call whose backup has its label, with the phase of its leg at the ingress
pub data HasBackup : CallState → Phase → Type 0 where
  Waits : HasBackup Guarded Held
  IsTurning : HasBackup Turning Armed
  HasTurned : HasBackup Turned Live
  IsStuck : HasBackup Stuck Held

has-backup : (state : CallState) (w : Option Phase) (f : Phase) → phases_fit state w (Some f) ≡ true →
    is_beyond_asked f ≡ true → HasBackup state f
has-backup Guarded (Some Live) Held e beyond = Waits
has-backup Turning (Some Live) Armed e beyond = IsTurning
has-backup Turned (Some Live) Live e beyond = HasTurned
has-backup Stuck (Some Live) Held e beyond = IsStuck
has-backup Pairing (Some Live) Asked e beyond = absurd (cc beyond)
has-backup Asking (Some Asked) f e beyond = absurd (cc e)
has-backup Bare (Some Live) f e beyond = absurd (cc e)
has-backup Blocked None f e beyond = absurd (cc e)
has-backup state w f e beyond = absurd (cc e)

-- the backup's leg at the ingress
pub record BackupThere (o : Option Lsp) (legs : List Leg) : Type 0 where
  pub lsp : Lsp
  pub leg : Leg
  pub named : o ≡ Some lsp
  pub here : find_leg lsp legs ≡ Some leg
  pub stands : leg_of o legs ≡ Some leg
  pub reserved : is_beyond_asked leg.phase ≡ true

-- a guarded call has one
pub backup-there : (o : Option Lsp) (legs : List Leg) → is_label_reserved (leg_of o legs) ≡ true → BackupThere o legs
backup-there None legs e = absurd (cc e)
backup-there (Some l) legs e = go (find_leg l legs) refl e
  where
    go : (x : Option Leg) → find_leg l legs ≡ x → is_label_reserved x ≡ true → BackupThere (Some l) legs
    go None is e = absurd (cc e)
    go (Some g) is e = record { lsp = l; leg = g; named = refl; here = is; stands = is; reserved = e }

-- a guarded call has no report of its working LSP, whose leg is Live
guarded-work : (w b : Option Phase) → phases_fit Guarded w b ≡ true → w ≡ Some Live
guarded-work (Some Live) (Some Held) e = refl
guarded-work w b e = absurd (cc e)

-- an LSP that is joined is there
joined-lsp : (t : Network) (events : List MeshEvent) (b : Bool) (e : NodeId) (o : Option Lsp) →
    IsJoined t events IsLive b e o → (l : Lsp) × (o ≡ Some l) × LspIsJoined t events IsLive b e l
joined-lsp t events b e None joined = absurd joined
joined-lsp t events b e (Some l) joined = (l, refl, joined)

-- what the laws of a state tell, as far as restoration needs it
pub record LawsOf (t : Network) (events : List MeshEvent) : Type 0 where
  pub calls : (n : ℕ) → CallsFit n ((after t start events).nodes n)
  pub hops : (l : Lsp) → LspFits t (after t start events) l (route_of t start events l)
  pub joined : CallsAreJoined t events
  pub beside : BackupsGoBeside t events
  pub risks : BackupsRecordRisks t events
  pub desks : DesksTell t (after t start events)
  pub reports : ReportsTell t events

module _ (t : Network) (events : List MeshEvent) (laws : LawsOf t events) (g : Group)
    (distinct : is_distinct (map (λ l. l.id.0) t.links) ≡ true) (quiet : IsQuiet (after t start events))
    (concern : AllConcern t g (after t start events)) where
  abbrev s : Mesh
  s = after t start events

  -- One call
  module _ (n : ℕ) (c : CallRec) (there : Contains (s.nodes n).calls c)
      (fit : FitsLegs n (s.nodes n).lsp (s.nodes n).legs c) (beside : CallGoesBeside t events c) where
    -- the call is two-way
    abbrev both : Bool
    both = goes_both_ways s c.work

    -- no fibre of the working LSP is reported: so none is down
    work-up : (b : Bool) (w : Lsp) → c.work ≡ Some w → LspIsJoined t events IsLive b c.egress w →
        phase_of (leg_of c.work (s.nodes n).legs) ≡ Some Live → c.work_reports ≡ [] →
        is_lsp_hit t events (Some w) ≡ false
    work-up b w is joined phase none =
        let named : IsNamed n (s.nodes n).lsp (s.nodes n).legs role.Work c.egress w =
        named_is n (s.nodes n).lsp (s.nodes n).legs role.Work c.egress c.work w fit.work is in
        let leg : Leg = named.leg.0 in
        let here : leg_at s w w.ingress ≡ Some leg =
        subst (λ m. find_leg w (s.nodes m).legs ≡ Some named.leg.0) (sym named.ingress) named.leg.1 in
        let live : leg.phase ≡ Live =
        (let e : phase_of (Some leg) ≡ Some Live = rw (is, named.leg.1) at phase in cc e) in
        let mine : is_lsp c.work w ≡ true = rw is (same_lsp-refl w) in
        let call = call-is n (s.nodes n) w leg c (laws.calls n) there (rw mine refl) named.ingress named.leg.1
        (ap is_closing live) in
        unreported-up t events quiet laws.desks laws.reports b c.egress w leg here named.leg.3 joined c
        (subst (λ m. call_with w (s.nodes m).calls ≡ Some c) (sym named.ingress) call) (rw mine none)

    -- the group is on the working LSP's route, where the backup's leg records a risk of it
    primary-concerns : (w b : Lsp) (leg : Leg) (r : PathRole) → RecordsRisks t events leg r → GuardsWork w b r →
        leg.lsp ≡ b → has_risk leg.risks (risk_of g) ≡ true →
        (primary : List Step) × (route_of t start events w ≡ Some primary) × (is_on_route t g primary ≡ true)
    primary-concerns w b leg (Work guard) records guards own has = absurd guards
    primary-concerns w b leg (Back active work primary) records guards own has = (
      primary,
      rw (guards, ← own) records.sent,
      risk-recorded t g distinct primary (rw (← records.risks) has),
    )

    -- an activated backup is up: the group is on the route of its working LSP
    backup-up : (w b : Lsp) (leg : Leg) → c.work ≡ Some w → c.back ≡ Some b → find_leg b (s.nodes n).legs ≡ Some leg →
        leg.role ≡ role.Back → is_marked leg ≡ true → is_lsp_hit t events (Some b) ≡ false
    backup-up w b leg is_work is_back here back mark =
        let has = found-all (LegConcerns g) b (s.nodes n).legs leg here (concern.nodes n).legs mark in
        let records = found-all (λ x. x.role ≡ role.Back → RecordsRisks t events x x.path_role) b (s.nodes n).legs leg
        here (recursion_from_All (λ x. x.role ≡ role.Back → RecordsRisks t events x x.path_role) (s.nodes n).legs
        (laws.risks n)) back in
        let on = primary-concerns w b leg leg.path_role records (fit.guards w b leg is_work is_back here)
        (found-lsp b (s.nodes n).legs leg here) has in
        let go = beside w b is_work is_back in
        let one : on.0 ≡ go.primary = (let x = on.1 in let y = go.work_sent in cc (x, y)) in
        let on_primary : is_on_route t g go.primary ≡ true = rw (← one) on.2 in
        let apart = not-true (routes_share_risk t go.primary go.backup) (and-left _ _ (and-right _ _ go.beside)) in
        rw go.back_sent (up go.primary go.backup apart on_primary (is_route_cut t s.failed (Some go.backup)) refl)
      where
        up : (primary backup : List Step) → routes_share_risk t primary backup ≡ false →
            is_on_route t g primary ≡ true → (cut : Bool) → is_route_cut t s.failed (Some backup) ≡ cut → cut ≡ false
        up primary backup apart on false e = refl
        up primary backup apart on true e =
            absurd (not_beside t g primary backup apart on (cut-concerns t s.failed g backup concern.failed e))

    -- no backup is being activated
    not-turning : (b : Lsp) (leg : Leg) → leg_at s b b.ingress ≡ Some leg → leg.phase ≡ Armed → ⊥
    not-turning b leg here armed = go (route_of t start events b) (laws.hops b)
      where
        go : (o : Option (List Step)) → LspFits t s b o → ⊥
        go None blank = (let none = blank.legs b.ingress in cc (none, here))
        go (Some route) (r, e, fits) = never-armed t s quiet r b route e fits leg here armed

    back-named : (there : BackupThere c.back (s.nodes n).legs) →
        IsNamed n (s.nodes n).lsp (s.nodes n).legs role.Back c.egress there.lsp
    back-named there =
        named_is n (s.nodes n).lsp (s.nodes n).legs role.Back c.egress c.back there.lsp fit.back there.named

    -- a call that waits, which its working LSP carries
    by-working : c.state ≡ Guarded → IsConnected t events c → IsRestored t events c
    by-working is joined =
        let w = joined-lsp t events both c.egress c.work joined in
        let phases : phases_fit Guarded (phase_of (leg_of c.work (s.nodes n).legs))
        (phase_of (leg_of c.back (s.nodes n).legs)) ≡ true = rw is at fit.state in
        let reports : not (has_any c.work_reports) ≡ true = rw is at fit.reports in
        let up : is_lsp_hit t events c.work ≡ false =
        rw w.1 (work-up both w.0 w.1 w.2 (guarded-work _ _ phases)
        (none-reported c.work_reports (not-true (has_any c.work_reports) reports))) in
        record {
          turned = λ hit. absurd (cc (hit, up));
          joined = rw is joined;
          up = rw is up;
        }

    -- a turned call, which its backup carries
    by-backup : (there : BackupThere c.back (s.nodes n).legs) → c.state ≡ Turned → there.leg.phase ≡ Live →
        IsConnected t events c → IsActivated t events c → IsRestored t events c
    by-backup there is live work joined =
        let w = joined-lsp t events both c.egress c.work work in
        let named = back-named there in
        let one : named.leg.0 ≡ there.leg = (let x = named.leg.1 in let y = there.here in cc (x, y)) in
        let back : there.leg.role ≡ role.Back = rw (← one) named.leg.2 in
        let up : is_lsp_hit t events c.back ≡ false =
        rw there.named (backup-up w.0 there.lsp there.leg w.1 there.named there.here back (rw (back, live) refl)) in
        record {
          turned = λ hit. is;
          joined = rw is joined;
          up = rw is up;
        }

    -- no call turns or is stuck
    in-state : (state : CallState) (f : Phase) → HasBackup state f → c.state ≡ state →
        (there : BackupThere c.back (s.nodes n).legs) → there.leg.phase ≡ f → CallConcerns t g c →
        CallIsJoined t events c state → IsRestored t events c
    in-state _ _ Waits is there phase concerns joined = by-working is joined.0
    in-state _ _ IsTurning is there phase concerns joined =
        let named = back-named there in
        absurd (not-turning there.lsp there.leg
        (subst (λ m. find_leg there.lsp (s.nodes m).legs ≡ Some there.leg) (sym named.ingress) there.here) phase)
    in-state _ _ HasTurned is there phase concerns joined = by-backup there is phase joined.0 joined.1
    in-state _ _ IsStuck is there phase concerns joined = absurd (concerns.free is)

    pub call-restored : CallIsJoined t events c c.state → CallConcerns t g c → is_guarded (s.nodes n) c ≡ true →
        IsRestored t events c
    call-restored joined concerns guarded =
        let there = backup-there c.back (s.nodes n).legs guarded in
        let phases : phases_fit c.state (phase_of (leg_of c.work (s.nodes n).legs)) (Some there.leg.phase) ≡ true =
        rw there.stands at fit.state in
        in-state c.state there.leg.phase (has-backup c.state _ there.leg.phase phases there.reserved) refl there refl
        concerns joined
