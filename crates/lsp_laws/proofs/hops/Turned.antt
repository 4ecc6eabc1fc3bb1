-- A backup is activated at its ingress, and its activation is taken back there: what becomes of a call whose working
-- LSP or backup is hit.
use Rattle.std.proofs.Common.{◌≡◌, ◌<◌, ℕ, Bool, true, false, List, refl, sym, ap, ◌∙◌, subst, arith}
use Rattle.std.specs.Prelude.{Option, Some, None}
use Rattle.ason_base.specs.{Codes.busy_code, Network.Network, declared.ids.Lsp.Lsp, declared.ids.NodeId.NodeId, declared.calls.CallState.CallState, declared.calls.CallState.TheVariants.{Asking, Bare, Blocked, Guarded, Pairing, Stuck, Turned, Turning}, declared.calls.Cause.TheVariants.{BackDown, Code}, declared.calls.Phase.TheVariants.{Armed, Held, Live}, declared.messages.PathRole.PathRole, declared.messages.PathRole.TheVariants.{Work, Back}, declared.messages.Msg.Msg, declared.messages.Msg.TheVariants.Path, declared.tables.CallRec.CallRec, declared.tables.Leg.Leg}
use Rattle.ason_base.specs.declared.calls.Role.TheVariants as role
use Rattle.mesh_rules.specs.{declared.neighbours.Neighbour.Neighbour, Activations.taken_on, Calls.{guarded, is_turning, stuck, turned}, CallSteps.{call_contended, call_turned}, Changes.{Answer, nothing}, Legs.{following, is_contended, is_held, is_in_use, with_phase}, Machine.{Mesh, commit}, State.NodeState, Turns.{activating, arms, call_put, decide, decided, disarms, go_back, has_any, taking_back, turn}}
use Rattle.lsp_laws.specs.{HopShapes.{ActivePath, PlainPath, path_kind}, HopLaw.{leg_at, mail_between}}
use Rattle.mesh_nodes.proofs.{Cases.if_cases, Phases.held-is}
use Rattle.lsp_laws.proofs.{hops.Activation.{arms_on, takes_back_on}, hops.Stepped.EachStepped, hops.Chain.{Chain, LegFitsPlan, PhaseFits}, hops.LegKinds.same_of, hops.LegChanges.{armed_fits, following_is, live_held_fits}, hops.Moved.{BeginsAtNode, EachStays, first_moves, stays_moved, stays_quiet, stays_stepped}, hops.Own.{AllSent, IsOf, IsQuietAnswer}, hops.Planned.{Planned, Routes, EachFollows}, hops.Plans.{Plan, hops, node_at, link_at, fibre_at}, hops.Purposes.{Purpose, Carries, Guards, Tells, purpose_role}, hops.Rows.leg_downstream}

-- What the Paths of a backup's ingress tell

-- the Path that the ingress of a Held leg sends activates the backup
record Activates (q : Purpose) (r : PathRole) : Type 0 where
  kind : path_kind (activating r) ≡ ActivePath
  tells : Tells q (activating r)

held_activates : (q : Purpose) (i n : ℕ) (enter leave : Option ℕ) (r : PathRole) → PhaseFits q Held i n enter leave →
    Tells q r → Activates q r
held_activates Carries i n enter leave r phase tells = absurd phase
held_activates (Guards w route) i n enter leave (Work guard) phase tells = absurd tells
held_activates (Guards w route) i n enter leave (Back active work primary) phase tells =
    record { kind = refl; tells = tells }

-- the one that goes out where the backup is left takes back
record TakesBack (q : Purpose) (r : PathRole) : Type 0 where
  kind : path_kind (taking_back r) ≡ PlainPath
  tells : Tells q (taking_back r)

tells_back : (q : Purpose) (r : PathRole) → purpose_role q ≡ role.Back → Tells q r → TakesBack q r
tells_back Carries r back tells = absurd (cc back)
tells_back (Guards w route) (Work guard) back tells = absurd tells
tells_back (Guards w route) (Back active work primary) back tells = record { kind = refl; tells = tells }

-- a backup that is cross-connected
pub record IsLiveBackup (b : Leg) : Type 0 where
  pub role : b.role ≡ role.Back
  pub live : b.phase ≡ Live

-- The chain of the backup

module _ (t : Network) (s : Mesh) (o : Routes) (c : CallRec) (l : Lsp) (q : Purpose) (p : Plan) (g : Leg)
    (pl : Planned t s o l q p) (here : leg_at s l (node_at p 0) ≡ Some g) where
  small : 0 < hops p
  small = pl.route.long

  fits : LegFitsPlan t q l p 0 g
  fits = rw here at (pl.chain.fits 0 (omega arith))

  next : following g ≡ Some (record { node = node_at p 1; fibre = fibre_at t p 0 })
  next = following_is t q l p 0 g fits small

  -- the leg at the ingress is Armed
  arms_chain : g.phase ≡ Held →
      Chain t q l p (leg_at (commit s (node_at p 0).0 (arms c g)) l)
      (mail_between (commit s (node_at p 0).0 (arms c g)) l)
  arms_chain held =
      let m : Msg = Path g.lsp g.egress (link_at p 0) g.route g.sent g.back_in (activating g.path_role) in
      let path = held_activates q 0 (hops p) g.in_label g.out_label g.path_role
      (let phase = fits.phase in rw held at phase) fits.tells in
      let hop = rw here at (pl.chain.each 0 small) in
      let never = leg_downstream (purpose_role q) _ _ _ _ hop.shape (rw held refl) in
      first_moves t s o l q p pl (arms c g) (with_phase Armed g) m refl (rw next refl) (same_of g.lsp l fits.own)
      (same_of g.lsp l fits.own) (armed_fits t q l p 0 g fits held small) never
      (arms_on q p 0 g (leg_at s l (node_at p 1)) m _ _ held path.kind (fits.egress, refl, fits.route, path.tells) refl
      refl (λ gone. absurd (never gone)) hop)

  -- or Held again
  disarms_chain : IsLiveBackup g →
      Chain t q l p (leg_at (commit s (node_at p 0).0 (disarms c g)) l)
      (mail_between (commit s (node_at p 0).0 (disarms c g)) l)
  disarms_chain is =
      let m : Msg = Path g.lsp g.egress (link_at p 0) g.route g.sent g.back_in (taking_back g.path_role) in
      let back : purpose_role q ≡ role.Back = sym fits.role ∙ is.role in
      let path = tells_back q g.path_role back fits.tells in
      let hop = rw here at (pl.chain.each 0 small) in
      let never = leg_downstream (purpose_role q) _ _ _ _ hop.shape (rw is.live refl) in
      first_moves t s o l q p pl (disarms c g) (with_phase Held g) m refl (rw next refl) (same_of g.lsp l fits.own)
      (same_of g.lsp l fits.own) (live_held_fits t q l p 0 g fits is.live back) never
      (takes_back_on q p 0 g (leg_at s l (node_at p 1)) m _ _ back is.live path.kind
      (fits.egress, refl, fits.route, path.tells) refl refl (λ gone. absurd (never gone)) hop)

module _ (c : CallRec) (g : Leg) where
  -- a Path of the leg goes to the next node, if there is one
  own_path : (r : PathRole) (h : Option Neighbour) → AllSent g.lsp (taken_on g g.route r h)
  own_path r None = tt
  own_path r (Some h) = (refl, refl, tt)

  pub own_arms : IsOf g.lsp (arms c g)
  own_arms = record { legs = (refl, tt); sent = own_path (activating g.path_role) (following g) }

  pub own_disarms : IsOf g.lsp (disarms c g)
  own_disarms = record { legs = (refl, tt); sent = own_path (taking_back g.path_role) (following g) }

-- What a call knows of its backup's leg b, where it may turn or go back

-- the leg stands where its LSP begins, and is cross-connected there while the call is turned
pub record BackStands (s : Mesh) (n : NodeId) (state : CallState) (b : Leg) : Type 0 where
  pub begins : BeginsAtNode s n b
  pub turned : state ≡ Turned → IsLiveBackup b

abbrev pub BackFits : Mesh → NodeId → CallState → Option Leg → Type 0
BackFits s n state b = (g : Leg) → b ≡ Some g → BackStands s n state g

-- the backup's leg of a guarded call stands where its LSP begins
pub guarded_fits : (s : Mesh) (n : NodeId) (g : Leg) → leg_at s g.lsp n ≡ Some g → g.lsp.ingress ≡ n →
    BackFits s n Guarded (Some g)
guarded_fits s n g there here b is =
    let one : g ≡ b = cc is in
    subst (BackStands s n Guarded) one (record {
      begins = record { there = there; ingress = ap (λ (m : NodeId). m.0) here };
      turned = λ e. absurd (cc e);
    })

module _ (t : Network) (s : Mesh) (n : NodeId) (o : Routes) (f : EachFollows t s o) where
  abbrev Stays : Answer → Type 0
  Stays a = EachStays t s n o a

  quiet : (a : Answer) → IsQuietAnswer a → Stays a
  quiet a is = stays_quiet t s n o a f is

  put : (c : CallRec) → Stays (call_put c)
  put c = quiet (call_put c) (record { legs = refl; sent = refl; numbers = refl })

  none : Stays nothing
  none = quiet nothing (record { legs = refl; sent = refl; numbers = refl })

  turn_stays : (legs : List Leg) (c : CallRec) (b : Option Leg) → ((g : Leg) → b ≡ Some g → BeginsAtNode s n g) →
      Stays (turn legs c b)
  turn_stays legs c None begins = put c
  turn_stays legs c (Some b) begins =
      if_cases Stays (is_held b.phase) _ _
      (λ held. if_cases Stays (is_contended legs b) _ _ (λ busy. put (stuck c (Code busy_code)))
      (λ free. stays_moved t s n o f b (begins b refl) (arms c b) (own_arms c b) refl
      (λ q p pl here. arms_chain t s o c b.lsp q p b pl here (held-is b.phase held))))
      (λ held. put c)

  pub turn_stepped : (legs : List Leg) (c : CallRec) (b : Option Leg) →
      ((g : Leg) → b ≡ Some g → BeginsAtNode s n g) → EachStepped t s n o (turn legs c b)
  turn_stepped legs c b begins = stays_stepped t s n o (turn legs c b) (turn_stays legs c b begins)

  pub go_back_stays : (c : CallRec) (b : Option Leg) (state : CallState) → state ≡ Turned → BackFits s n state b →
      EachStays t s n o (go_back c b)
  go_back_stays c None state is fit = put c
  go_back_stays c (Some b) state is fit =
      let leg = fit b refl in
      if_cases Stays (is_in_use b.phase) _ _
      (λ used. stays_moved t s n o f b leg.begins (disarms c b) (own_disarms c b) refl
      (λ q p pl here. disarms_chain t s o c b.lsp q p b pl here (leg.turned is)))
      (λ used. put c)

  pub go_back_stepped : (c : CallRec) (b : Option Leg) → c.state ≡ Turned → BackFits s n c.state b →
      EachStepped t s n o (go_back c b)
  go_back_stepped c b is fit = stays_stepped t s n o (go_back c b) (go_back_stays c b c.state is fit)

  -- Decisions

  decided_stays : (legs : List Leg) (c : CallRec) (b : Option Leg) (state : CallState) → BackFits s n state b →
      (works backs : Bool) → Stays (decided legs c b state works backs)
  decided_stays legs c b Guarded fit true false = turn_stays legs c b (λ g is. (fit g is).begins)
  decided_stays legs c b Guarded fit true true = put (stuck c BackDown)
  decided_stays legs c b Guarded fit false backs = put c
  decided_stays legs c b Turned fit false true = go_back_stays c b Turned refl fit
  decided_stays legs c b Turned fit false false = put c
  decided_stays legs c b Turned fit true backs = put c
  decided_stays legs c b Stuck fit false backs = put (guarded c)
  decided_stays legs c b Stuck fit true backs = put c
  decided_stays legs c b Asking fit works backs = put c
  decided_stays legs c b Bare fit works backs = put c
  decided_stays legs c b Pairing fit works backs = put c
  decided_stays legs c b Turning fit works backs = put c
  decided_stays legs c b Blocked fit works backs = put c

  pub decide_stepped : (legs : List Leg) (c : CallRec) (b : Option Leg) → BackFits s n c.state b →
      EachStepped t s n o (decide legs c b)
  decide_stepped legs c b fit =
      stays_stepped t s n o (decide legs c b)
      (decided_stays legs c b c.state fit (has_any c.work_reports) (has_any c.back_reports))

  pub turned_stepped : (st : NodeState) (b : Leg) → BackStands s n Turned b → (called : Option CallRec) →
      EachStepped t s n o (call_turned st b called)
  turned_stepped st b stands None = stays_stepped t s n o nothing none
  turned_stepped st b stands (Some c) =
      if_cases (EachStepped t s n o) (is_turning c.state) _ _
      (λ h. decide_stepped st.legs (turned c) (Some b) (λ g is. subst (BackStands s n Turned) (same b g is) stands))
      (λ h. stays_stepped t s n o nothing none)
    where
      same : (b g : Leg) → Some b ≡ Some g → b ≡ g
      same b g is = cc is

  -- a stuck call doesn't move
  stuck_stays : (legs : List Leg) (c : CallRec) (b : Option Leg) (works backs : Bool) →
      Stays (decided legs c b Stuck works backs)
  stuck_stays legs c b false backs = put (guarded c)
  stuck_stays legs c b true backs = put c

  pub contended_stepped : (st : NodeState) (b : Leg) (called : Option CallRec) →
      EachStepped t s n o (call_contended st b called)
  contended_stepped st b None = stays_stepped t s n o nothing none
  contended_stepped st b (Some c) =
      if_cases (EachStepped t s n o) (is_turning c.state) _ _
      (λ h. stays_stepped t s n o (decide st.legs (stuck c (Code busy_code)) (Some b))
      (stuck_stays st.legs (stuck c (Code busy_code)) (Some b) (has_any c.work_reports) (has_any c.back_reports)))
      (λ h. stays_stepped t s n o nothing none)
