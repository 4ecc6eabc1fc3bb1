-- The call that is guarded as the group fails.
use Rattle.std.proofs.Common.{append_assoc, append-nil, ◌≡◌, ℕ, Bool, true, false, List, [], ◌∷◌, ◌++◌, refl, sym, ap, subst}
use Rattle.std.specs.{Prelude.{Option, Some, None}, List.AllByRecursion}
use Rattle.ason_base.specs.{Network.{IsTopology, Network}, declared.calls.CallState.CallState, declared.calls.CallState.TheVariants.{Asking, Bare, Blocked, Guarded, Pairing, Stuck, Turned, Turning}, declared.calls.Phase.Phase, declared.calls.Phase.TheVariants.{Asked, Held, Armed, Live}, declared.commands.Command.TheVariants.Fail, declared.commands.Group.Group, declared.ids.CallNo.CallNo, declared.ids.Lsp.Lsp, declared.steps.Step.Step, declared.tables.CallRec.CallRec, declared.tables.Leg.Leg}
use Rattle.ason_base.specs.declared.calls.Role.TheVariants as role
use Rattle.mesh_rules.specs.{declared.events.MeshEvent.MeshEvent, declared.events.MeshEvent.TheVariants.{Take, Desk, Tick, Learn, Post}, Calls.find_call, Events.{IsRun, after, or_route, route_of, step}, Legs.{is_beyond_asked, leg_of}, Machine.{Mesh, start}, Turns.has_any}
use Rattle.mesh_nodes.proofs.{CallList.found-call-all, LegList.found-all}
use Rattle.lsp_laws.specs.CallLaw.{FitsLegs, IsNamed, phases_fit, fits_reports, phase_of}
use Rattle.lsp_laws.proofs.{nodes.NodeRuns.facts-hold, hops.NamedPhases.named_is}
use Rattle.mesh_laws.specs.{AloneLaw.{AllConcern, Alone, Calm, CallIsCalm, FailsOnly, LegIsCalm, NoneRefused, is_idle}, RestorationLaw.is_guarded, SoonLaw.{IsStruck, PostsNothing}}
use Rattle.mesh_laws.proofs.{alone.AloneRuns.{after-append, append-one, run-first}, alone.Law.every_activation_admitted, restoration.Calls.{BackupThere, backup-there}, soon.NoneUp.NoneUp, soon.AtStart.none-up-at-first}

-- Its state

guarded-state : (f : CallState) (w b : Option Phase) (x : Phase) (backs : Bool) → phases_fit f w b ≡ true → b ≡ Some x →
    is_beyond_asked x ≡ true → is_idle x ≡ true → fits_reports f false backs ≡ true → f ≡ Guarded
guarded-state Guarded (Some Live) (Some Held) x backs e is beyond idle reports = refl
guarded-state Stuck (Some Live) (Some Held) x backs e is beyond idle reports = absurd (cc reports)
guarded-state Turning (Some Live) (Some Armed) x backs e is beyond idle reports =
    absurd (let one : Armed ≡ x = cc is in let never : is_idle Armed ≡ true = subst (λ y. is_idle y ≡ true) (sym one) idle in cc never)
guarded-state Turned (Some Live) (Some Live) x backs e is beyond idle reports =
    absurd (let one : Live ≡ x = cc is in let never : is_idle Live ≡ true = subst (λ y. is_idle y ≡ true) (sym one) idle in cc never)
guarded-state Pairing (Some Live) (Some Asked) x backs e is beyond idle reports =
    absurd (let one : Asked ≡ x = cc is in
    let never : is_beyond_asked Asked ≡ true = subst (λ y. is_beyond_asked y ≡ true) (sym one) beyond in cc never)
guarded-state Asking (Some Asked) None x backs e is beyond idle reports = absurd (cc is)
guarded-state Bare (Some Live) None x backs e is beyond idle reports = absurd (cc is)
guarded-state Blocked None None x backs e is beyond idle reports = absurd (cc is)
guarded-state f w b x backs e is beyond idle reports = absurd (cc e)

work-phase : (f : CallState) (w b : Option Phase) → phases_fit f w b ≡ true → f ≡ Guarded → w ≡ Some Live
work-phase Guarded (Some Live) (Some Held) e is = refl
work-phase Stuck (Some Live) (Some Held) e is = refl
work-phase Turning (Some Live) (Some Armed) e is = refl
work-phase Turned (Some Live) (Some Live) e is = refl
work-phase Pairing (Some Live) (Some Asked) e is = refl
work-phase Bare (Some Live) None e is = refl
work-phase Asking (Some Asked) None e is = absurd (cc is)
work-phase Blocked None None e is = absurd (cc is)
work-phase f w b e is = absurd (cc e)

named-of : (o : Option Lsp) (legs : List Leg) (x : Phase) → phase_of (leg_of o legs) ≡ Some x → (l : Lsp) × (o ≡ Some l)
named-of None legs x e = absurd (cc e)
named-of (Some l) legs x e = (l, refl)

-- a guarded call of a calm state
pub record IsCalmCall (c : CallRec) : Type 0 where
  pub work : Lsp
  pub back : Lsp
  pub is_work : c.work ≡ Some work
  pub is_back : c.back ≡ Some back
  pub state : c.state ≡ Guarded

-- A call that is guarded in a calm state has both its LSPs, and is in the state Guarded.
pub calm-call : (t : Network) (events : List MeshEvent) → IsRun t start events → Calm (after t start events) → (n : ℕ)
    (m : CallNo) (c : CallRec) → find_call m ((after t start events).nodes n).calls ≡ Some c →
    is_guarded ((after t start events).nodes n) c ≡ true → IsCalmCall c
calm-call t events run calm n m c found guarded =
    let s : Mesh = after t start events in
    let fit : FitsLegs n (s.nodes n).lsp (s.nodes n).legs c = ((facts-hold t events run).node n).call m c found in
    let there : BackupThere c.back (s.nodes n).legs = backup-there c.back (s.nodes n).legs guarded in
    let named : IsNamed n (s.nodes n).lsp (s.nodes n).legs role.Back c.egress there.lsp =
    named_is n (s.nodes n).lsp (s.nodes n).legs role.Back c.egress c.back there.lsp fit.back there.named in
    let one : named.leg.0 ≡ there.leg = (let x = named.leg.1 in let y = there.here in cc (x, y)) in
    let back : there.leg.role ≡ role.Back = subst (λ (x : Leg). x.role ≡ role.Back) one named.leg.2 in
    let idle : is_idle there.leg.phase ≡ true =
    found-all LegIsCalm there.lsp (s.nodes n).legs there.leg there.here (calm.legs n) back in
    let none : CallIsCalm c = found-call-all CallIsCalm m (s.nodes n).calls c found (calm.reports n) in
    let reports : fits_reports c.state false (has_any c.back_reports) ≡ true =
    subst (λ fs. fits_reports c.state (has_any fs) (has_any c.back_reports) ≡ true) none.0 fit.reports in
    let phases : phases_fit c.state (phase_of (leg_of c.work (s.nodes n).legs))
    (phase_of (leg_of c.back (s.nodes n).legs))
    ≡ true = fit.state in
    let is : phase_of (leg_of c.back (s.nodes n).legs) ≡ Some there.leg.phase = ap phase_of there.stands in
    let state = guarded-state c.state _ _ there.leg.phase (has_any c.back_reports) phases is there.reserved idle reports
    in
    let work = named-of c.work (s.nodes n).legs Live (work-phase c.state _ _ phases state) in
    record { work = work.0; back = there.lsp; is_work = work.1; is_back = there.named; state = state }

-- The events

posts-fails : (g : Group) (es : List MeshEvent) → AllByRecursion PostsNothing es → AllByRecursion (FailsOnly g) es
posts-fails g [] all = tt
posts-fails g (Take d u ∷ es) all = (tt, posts-fails g es all.1)
posts-fails g (Desk n ∷ es) all = (tt, posts-fails g es all.1)
posts-fails g (Tick n ∷ es) all = (tt, posts-fails g es all.1)
posts-fails g (Learn n k ∷ es) all = (tt, posts-fails g es all.1)
posts-fails g (Post c ∷ es) all = absurd all.0

all-first : (P : MeshEvent → Type 0) (a b : List MeshEvent) → AllByRecursion P (a ++ b) → AllByRecursion P a
all-first P [] b all = tt
all-first P (x ∷ a) b all = (all.0, all-first P a b all.1)

-- routes that were sent first stay
pub route-stays : (t : Network) (s : Mesh) (a b : List MeshEvent) (l : Lsp) (r : List Step) →
    route_of t s a l ≡ Some r → route_of t s (a ++ b) l ≡ Some r
route-stays t s [] b l r e = absurd (cc e)
route-stays t s (x ∷ a) b l r e =
    go _ e (λ later. route-stays t (step t s x) a b l r later)
  where
    go : (o : Option (List Step)) → or_route o (route_of t (step t s x) a l) ≡ Some r →
        (route_of t (step t s x) a l ≡ Some r → route_of t (step t s x) (a ++ b) l ≡ Some r) →
        or_route o (route_of t (step t s x) (a ++ b) l) ≡ Some r
    go None e later = later e
    go (Some q) e later = e

module _ (t : Network) (valid : IsTopology t) (events : List MeshEvent) (run : IsRun t start events) (g : Group)
    (struck : IsStruck t events g) where
  abbrev base : List MeshEvent
  base = struck.before ++ Post (Fail g) ∷ []

  -- the whole run
  pub whole-run : IsRun t start ((struck.before ++ Post (Fail g) ∷ []) ++ struck.since)
  whole-run =
      subst (IsRun t start) (sym (append-one struck.before (Post (Fail g)) struck.since))
      (subst (IsRun t start) (sym struck.parts) run)

  -- the run up to a state since
  pub run-to : (first later : List MeshEvent) → first ++ later ≡ struck.since →
      IsRun t start ((struck.before ++ Post (Fail g) ∷ []) ++ first)
  run-to first later parts =
      run-first t start (base ++ first) later
      (subst (IsRun t start) (sym (append_assoc base first later))
      (subst (λ xs. IsRun t start (base ++ xs)) (sym parts) whole-run))

  abbrev alone-to : (first later : List MeshEvent) → first ++ later ≡ struck.since → Alone t (base ++ first) g
  alone-to first later parts = record {
    before = struck.before;
    since = Post (Fail g) ∷ first;
    parts = sym (append-one struck.before (Post (Fail g)) first);
    calm = struck.calm;
    only = (
      refl,
      posts-fails g first
          (all-first PostsNothing first later (subst (AllByRecursion PostsNothing) (sym parts) struck.only)),
    );
  }

  -- all concerns the group, at each state since
  pub concern-to : (first later : List MeshEvent) → first ++ later ≡ struck.since →
      AllConcern t g (after t start ((struck.before ++ Post (Fail g) ∷ []) ++ first))
  concern-to first later parts =
      (every_activation_admitted t (base ++ first) valid (run-to first later parts) g (alone-to first later parts)).1

  -- and nothing is refused
  pub none-refused : NoneRefused t (after t start (struck.before ++ Post (Fail g) ∷ [])) struck.since
  none-refused =
      let all = (every_activation_admitted t (base ++ struck.since) valid whole-run g
      (alone-to struck.since [] (append-nil struck.since))).0 in
      subst (λ x. NoneRefused t x struck.since)
      (sym (after-append t start struck.before (Post (Fail g) ∷ []))) all.2

  -- nothing is posted since
  pub only-takes : AllByRecursion PostsNothing struck.since
  only-takes = struck.only

  -- and alarms alone are on the desks at first
  pub first-alarms : NoneUp (after t start (struck.before ++ Post (Fail g) ∷ []))
  first-alarms =
      subst NoneUp (sym (after-append t start struck.before (Post (Fail g) ∷ [])))
      (none-up-at-first t (after t start struck.before) g struck.calm.failed struck.quiet)
