-- A call turns to its backup or goes back: how much the work grows.
use Rattle.std.proofs.Common.{◌≡◌, ◌≤◌, ℕ, suc, ◌+◌, ◌*◌, ◌-◌, false, List, [], length, length-drop, refl, sym, ◌∙◌, ap, subst, arith, inl, inr}
use Rattle.std.specs.Prelude.{◌⊎◌, Option, Some, None}
use Rattle.mesh_rules.specs.{declared.limits.TheConstants.MOST_LINKS_OF_ROUTE, Calls.stuck, Changes.Answer, Legs.{following, is_contended, is_held, is_in_use, with_phase}, Machine.{Mesh, commit}, Turns.{activating, arms, call_put, disarms, go_back, taking_back, turn}}
use Rattle.ason_base.specs.{Network.Network, declared.ids.Lsp.Lsp, declared.ids.NodeId.NodeId, declared.steps.Step.Step, declared.calls.CallState.CallState, declared.calls.CallState.TheVariants.Turned, Codes.busy_code, declared.calls.Cause.TheVariants.Code, declared.calls.Phase.TheVariants.{Armed, Held}, declared.messages.PathRole.PathRole, declared.messages.PathRole.TheVariants.{Work, Back}, declared.messages.Msg.Msg, declared.messages.Msg.TheVariants.Path, declared.tables.CallRec.CallRec, declared.tables.Leg.Leg}
use Rattle.ason_base.specs.declared.calls.Role.TheVariants as role
use Rattle.ason_base.proofs.JoinedEnds.{same-node}
use Rattle.lsp_laws.specs.HopLaw.{leg_at, mail_between}
use Rattle.mesh_nodes.proofs.{Cases.if_cases, LegList.same_lsp-refl, Phases.held-is}
use Rattle.lsp_laws.proofs.{hops.Chain.{LegFitsPlan, OnRoute, PhaseFits}, hops.LegKinds.live_leg, hops.LegChanges.following_is, hops.Moved.BeginsAtNode, hops.Own.IsOf, hops.Planned.{Planned, Follows, EachFollows}, hops.Plans.{Plan, plan, hops, fibre_at, node_at, distinct}, hops.Purposes.{Purpose, Carries, Guards, Tells, purpose_role}, hops.IdleHops.no_kinds, hops.Rows.live_upstream, hops.Tables.leg_after, hops.Turned.{BackFits, IsLiveBackup, own_arms, own_disarms}, hops.Views.{leg-here, leg-there}}
use Rattle.mesh_laws.specs.Weights.{FirstRoutes, weight, path_weight, way, turn_most}
use Rattle.mesh_laws.proofs.{rest.Committed.StayLight, rest.Grown.{GrowsBy, grows, grows-quiet}, rest.Light.stay-own, rest.LegWeights.{path-still, deaf-light, sent-back}, rest.Near.{LightFor, light-empty, light-both, near-light}, rest.RowKinds.held-none_up}

-- no route is longer than a route may be
abbrev pub AreShort : FirstRoutes → Type 0
AreShort o = (l : Lsp) (route : List Step) → o l ≡ Some route → length route ≤ MOST_LINKS_OF_ROUTE

-- what may be on its way to the ingress
near-first : (t : Network) (s : Mesh) (o : FirstRoutes) (l : Lsp) (q : Purpose) (p : Plan) → Planned t s o l q p →
    (Q : List Msg → Type 0) → Q [] → Q (mail_between s l (node_at p 1) (node_at p 0)) → (x : ℕ) →
    Q (mail_between s l (record { 0 = x }) (node_at p 0))
near-first t s o l q p pl Q none next x = go (pl.chain.ways (record { 0 = x }) (node_at p 0))
  where
    go : (mail_between s l (record { 0 = x }) (node_at p 0) ≡ []) ⊎ OnRoute p (record { 0 = x }) (node_at p 0) →
        Q (mail_between s l (record { 0 = x }) (node_at p 0))
    go (inl empty) = rw empty none
    go (inr (j, small, inl (at_x, at_d))) =
        let is : 0 ≡ suc j = pl.route.apart 0 (suc j) (omega arith) (omega arith) at_d in absurd (omega arith)
    go (inr (j, small, inr (at_x, at_d))) =
        let is : 0 ≡ j = pl.route.apart 0 j (omega arith) (omega arith) at_d in
        let from : x ≡ (node_at p 1).0 = at_x ∙ ap (λ n. (node_at p (suc n)).0) (sym is) in
        rw from next

-- an activating Path of a backup's leg
active-most : (q : Purpose) (i n : ℕ) (enter leave : Option ℕ) (r : PathRole) (g : Option Leg) (k : ℕ) →
    PhaseFits q Held i n enter leave → Tells q r → path_weight (activating r) g k ≤ k + 2 * way
active-most Carries i n enter leave r g k phase tells = absurd phase
active-most (Guards w route) i n enter leave (Work guard) g k phase tells = absurd tells
active-most (Guards w route) i n enter leave (Back active work primary) g k phase tells = omega arith

-- the Path that goes out where a backup is left takes back
takes-back : (q : Purpose) (r : PathRole) → purpose_role q ≡ role.Back → Tells q r →
    (work : ℕ) × (primary : List Step) × (taking_back r ≡ Back false work primary)
takes-back Carries r back tells = absurd (cc back)
takes-back (Guards w route) (Work guard) back tells = absurd tells
takes-back (Guards w route) (Back active work primary) back tells = (work, primary, refl)

module _ (t : Network) (s : Mesh) (o : FirstRoutes) (c : CallRec) (q : Purpose) (p : Plan) (g : Leg)
    (pl : Planned t s o g.lsp q p) (here : leg_at s g.lsp (node_at p 0) ≡ Some g)
    (short : hops p ≤ MOST_LINKS_OF_ROUTE) where
  l : Lsp
  l = g.lsp

  fits : LegFitsPlan t q g.lsp p 0 g
  fits = rw here at (pl.chain.fits 0 (omega arith))

  next : following g ≡ Some (record { node = node_at p 1; fibre = fibre_at t p 0 })
  next = following_is t q g.lsp p 0 g fits pl.route.long

  long : suc (length g.route) ≡ hops p
  long =
      let is : length g.route ≡ hops p - 1 = rw fits.route (length-drop 1 p.route) in
      let some = pl.route.long in
      omega arith

  -- the leg at the ingress changes, and no message to it gets heavier
  stays : (a : Answer) (h : Leg) → IsOf g.lsp a → leg_after g.lsp a.legs (leg_at s g.lsp (node_at p 0)) ≡ Some h →
      ((x : ℕ) → LightFor (Some g) (Some h) (mail_between s g.lsp (record { 0 = x }) (node_at p 0))) →
      StayLight o s o (commit s (node_at p 0).0 a) s
  stays a h of is light =
      stay-own o s (node_at p 0) g.lsp a of
      (λ x. near-light o s (commit s (node_at p 0).0 a) g.lsp x (node_at p 0).0 (s.mail x (node_at p 0).0)
      (subst (λ (b : Option Leg). LightFor b (leg_at (commit s (node_at p 0).0 a) g.lsp (node_at p 0))
      (mail_between s g.lsp (record { 0 = x }) (node_at p 0))) (sym here)
      (subst (λ (b : Option Leg). LightFor (Some g) b (mail_between s g.lsp (record { 0 = x }) (node_at p 0)))
      (sym (leg-here s (node_at p 0) g.lsp a ∙ is)) (light x))))

  -- A backup that is activated at its ingress adds at most turn_most.
  pub arms-grow : g.phase ≡ Held → GrowsBy o s (node_at p 0) turn_most (arms c g)
  arms-grow held =
      grows o o s (node_at p 0).0 (arms c g)
      (stays (arms c g) (with_phase Armed g) (own_arms c g) (rw (same_lsp-refl g.lsp) refl)
      (near-first t s o g.lsp q p pl (LightFor (Some g) (Some (with_phase Armed g))) (light-empty _ _)
      (rw quiet (light-empty _ _)))) turn_most
      (rw next (at-most _ (hops p + 2 * way) turn_most
      (rw (← long) (active-most q 0 (hops p) g.in_label g.out_label g.path_role _ _
      (rw held at fits.phase) fits.tells)) (omega arith)))
    where
      quiet : mail_between s g.lsp (node_at p 1) (node_at p 0) ≡ []
      quiet = no_kinds (mail_between s g.lsp (node_at p 1) (node_at p 0))
          (held-none_up (purpose_role q) _ _ _ (rw (here, held) at (pl.chain.each 0 pl.route.long).shape))

      at-most : (x m y : ℕ) → x ≤ m → m ≤ y → x + 0 ≤ y
      at-most x m y h k = omega arith

  -- A backup whose activation is taken back at its ingress adds at most a hop of the longest route each.
  pub disarms-grow : IsLiveBackup g → GrowsBy o s (node_at p 0) MOST_LINKS_OF_ROUTE (disarms c g)
  disarms-grow is =
      grows o o s (node_at p 0).0 (disarms c g)
      (stays (disarms c g) (with_phase Held g) (own_disarms c g) (rw (same_lsp-refl g.lsp) refl)
      (λ x. light-both _ _ _ (λ r k. path-still r g (with_phase Held g) k)
      (deaf-light (Some g) (with_phase Held g) (λ k. refl)))) MOST_LINKS_OF_ROUTE
      (rw next (by_role g.path_role (sym fits.role ∙ is.role) fits.tells))
    where
      live-next : (h : Leg) × (leg_at s g.lsp (node_at p 1) ≡ Some h)
      live-next =
          let live = (live_upstream (purpose_role q) _ _ _
          (rw (here, is.live) at (pl.chain.each 0 pl.route.long).shape)).live in
          let leg = live_leg (leg_at s g.lsp (node_at p 1)) live in (leg.0, leg.1)

      by_role : (r : PathRole) → purpose_role q ≡ role.Back → Tells q r →
          weight o (commit s (node_at p 0).0 (disarms c g)) (node_at p 0).0 (node_at p 1).0
          (Path g.lsp g.egress (fibre_at t p 0).link g.route g.sent g.back_in (taking_back r)) + 0 ≤ MOST_LINKS_OF_ROUTE
      by_role r back tells =
          let b = takes-back q r back tells in
          let small : weight o (commit s (node_at p 0).0 (disarms c g)) (node_at p 0).0 (node_at p 1).0
          (Path g.lsp g.egress (fibre_at t p 0).link g.route g.sent g.back_in (Back false b.0 b.1)) ≤ suc
          (length g.route) =
          sent-back o s (commit s (node_at p 0).0 (disarms c g)) g.lsp g.lsp (node_at p 1) live-next.0 refl
          (leg-there s (node_at p 0) (node_at p 1) g.lsp (disarms c g)
          (distinct t g.lsp.ingress p pl.route 1 0 pl.route.long (omega arith) (omega arith))) live-next.1
          (node_at p 0).0 g.egress (fibre_at t p 0).link g.route g.sent g.back_in b.0 b.1 in
          let same : weight o (commit s (node_at p 0).0 (disarms c g)) (node_at p 0).0 (node_at p 1).0
          (Path g.lsp g.egress (fibre_at t p 0).link g.route g.sent g.back_in (taking_back r)) ≡
          weight o (commit s (node_at p 0).0 (disarms c g)) (node_at p 0).0 (node_at p 1).0
          (Path g.lsp g.egress (fibre_at t p 0).link g.route g.sent g.back_in (Back false b.0 b.1)) =
          ap (λ (x : PathRole). weight o (commit s (node_at p 0).0 (disarms c g)) (node_at p 0).0 (node_at p 1).0
          (Path g.lsp g.egress (fibre_at t p 0).link g.route g.sent g.back_in x)) b.2 in
          omega (arith, small, same, long)

-- Every call

module _ (t : Network) (s : Mesh) (n : NodeId) (o : FirstRoutes) (f : EachFollows t s o) (short : AreShort o) where
  put : (c : CallRec) → GrowsBy o s n turn_most (call_put c)
  put c = grows-quiet o s n (call_put c) turn_most (record { legs = refl; sent = refl; numbers = refl })

  -- the chain of a leg that begins here
  chained : (b : Leg) → BeginsAtNode s n b → (more : ℕ) (a : Answer) →
      ((q : Purpose) (p : Plan) → (pl : Planned t s o b.lsp q p) → leg_at s b.lsp (node_at p 0) ≡ Some b →
      hops p ≤ MOST_LINKS_OF_ROUTE →
      GrowsBy o s (node_at p 0) more a) → GrowsBy o s n more a
  chained b begins more a moves = go (o b.lsp) refl (f b.lsp)
    where
      go : (h : Option (List Step)) → o b.lsp ≡ h → Follows t s o b.lsp h → GrowsBy o s n more a
      go None is follow = absurd (let gone = follow.legs n in let there = begins.there in cc (there, gone))
      go (Some route) is (e, q, pl) =
          let at : n ≡ node_at (plan route e) 0 = sym (pl.route.first ∙ same-node b.lsp.ingress n begins.ingress) in
          subst (λ (m : NodeId). GrowsBy o s m more a) (sym at)
          (moves q (plan route e) pl (subst (λ (m : NodeId). leg_at s b.lsp m ≡ Some b) at begins.there)
          (short b.lsp route is))

  -- A turn adds at most turn_most, whichever legs the rule read.
  pub turn-grow : (legs : List Leg) (c : CallRec) (b : Option Leg) → ((g : Leg) → b ≡ Some g → BeginsAtNode s n g) →
      GrowsBy o s n turn_most (turn legs c b)
  turn-grow legs c None begins = put c
  turn-grow legs c (Some b) begins =
      if_cases (GrowsBy o s n turn_most) (is_held b.phase) _ _
      (λ held. if_cases (GrowsBy o s n turn_most) (is_contended legs b) _ _ (λ busy. put (stuck c (Code busy_code)))
      (λ free. chained b (begins b refl) turn_most (arms c b)
      (λ q p pl here small. arms-grow t s o c q p b pl here small (held-is b.phase held))))
      (λ held. put c)

  -- Going back adds at most as much.
  pub go_back-grow : (c : CallRec) (b : Option Leg) (state : CallState) → state ≡ Turned → BackFits s n state b →
      GrowsBy o s n MOST_LINKS_OF_ROUTE (go_back c b)
  go_back-grow c None state is fit =
      grows-quiet o s n (call_put c) MOST_LINKS_OF_ROUTE (record { legs = refl; sent = refl; numbers = refl })
  go_back-grow c (Some b) state is fit =
      if_cases (GrowsBy o s n MOST_LINKS_OF_ROUTE) (is_in_use b.phase) _ _
      (λ used. chained b (fit b refl).begins MOST_LINKS_OF_ROUTE (disarms c b)
      (λ q p pl here small. disarms-grow t s o c q p b pl here small ((fit b refl).turned is)))
      (λ used. grows-quiet o s n (call_put c) MOST_LINKS_OF_ROUTE (record { legs = refl; sent = refl; numbers = refl }))
