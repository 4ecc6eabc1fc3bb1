-- What a call does at its ingress: how much the work grows.
use Rattle.std.proofs.Common.{◌≡◌, ◌<◌, ℕ, suc, ◌+◌, ◌*◌, Bool, true, false, List, drop, length, refl, subst, arith}
use Rattle.std.specs.Prelude.{nat_lt, Option, Some, None, is_some}
use Rattle.ason_base.specs.{Codes.{busy_code, label_code}, Network.Network, Risks.unknown_link, declared.codes.ErrCode.ErrCode, declared.ids.NodeId.NodeId, declared.steps.Step.Step, declared.network.LinkSpec.LinkSpec, declared.calls.CallState.CallState, declared.calls.CallState.TheVariants.{Asking, Bare, Blocked, Guarded, Pairing, Stuck, Turned, Turning}, declared.calls.Cause.Cause, declared.calls.Cause.TheVariants.{BackDown, Code, Full, NoBackup, Spent}, declared.tables.CallRec.CallRec, declared.tables.Leg.Leg}
use Rattle.mesh_rules.specs.{declared.neighbours.Neighbour.Neighbour, declared.limits.TheConstants.{LAST_NUMBER, MOST_LINKS_OF_ROUTE}, Calls.{bare, blocked, guarded, is_asking, is_pairing, is_turning, pairing, stuck, turned}, CallSteps.{call_answered, call_contended, call_refused, call_turned}, Changes.nothing, FirstLegs.{first_link, is_full, lacks_first_back}, KnownRows.known_rows, Legs.{following, is_contended, is_held, is_in_use, is_work}, LocalNodes.{LocalNode, local_node}, Machine.Mesh, Pairs.{admitted_backup, backup_lsp, backup_route, beside_lsp, guarding, is_two_way, leaves_bare, over_backup, pair, pair_over, route_from}, State.NodeState, Turns.{activating_path, arms, call_put, decide, decided, disarms, go_back, has_any, taking_path, turn}}
use Rattle.lsp_laws.specs.HopLaw.{leg_at}
use Rattle.mesh_nodes.proofs.Cases.{if_cases}
use Rattle.lsp_laws.proofs.{hops.Moved.BeginsAtNode, hops.Own.AllSent, hops.Planned.{EachFollows, Follows, or_none}, hops.Turned.{BackFits, BackStands, guarded_fits}}
use Rattle.mesh_laws.specs.Weights.{FirstRoutes, turn_most, pair_most, way}
use Rattle.mesh_laws.proofs.{rest.BeginRests.new-blank, rest.Expanded.{Expands, IsRouteKnown, begins-expand, expands-known, expands-more, expands-quiet, first-short, known-of}, rest.TurnRests.{AreShort, go_back-grow, turn-grow}}

module _ (t : Network) (s : Mesh) (n : NodeId) (o : FirstRoutes) (f : EachFollows t s o) (short : AreShort o) where
  -- A call alone that is put in its place adds no work.
  pub put-expand : (more : ℕ) (c : CallRec) → Expands s n o more (call_put c)
  put-expand more c = expands-quiet s n o more (call_put c) (record { legs = refl; sent = refl; numbers = refl })

  -- An answer that changes nothing adds no work.
  pub none-expand : (more : ℕ) → Expands s n o more nothing
  none-expand more = expands-quiet s n o more nothing (record { legs = refl; sent = refl; numbers = refl })

  has-route : (b : Leg) → BeginsAtNode s n b → (route : List Step) × (o b.lsp ≡ Some route)
  has-route b begins = go (o b.lsp) refl (f b.lsp)
    where
      go : (h : Option (List Step)) → o b.lsp ≡ h → Follows t s o b.lsp h → (route : List Step) × (o b.lsp ≡ Some route)
      go None is follow = absurd (let gone = follow.legs n in let there = begins.there in cc (there, gone))
      go (Some route) is follow = (route, is)

  known-put : (c : CallRec) → IsRouteKnown o (call_put c)
  known-put c l = or_none (o l)

  of-arms : (b : Leg) (h : Option Neighbour) → AllSent b.lsp (activating_path b h)
  of-arms b None = tt
  of-arms b (Some h) = (refl, refl, tt)

  of-disarms : (b : Leg) (h : Option Neighbour) → AllSent b.lsp (taking_path b h)
  of-disarms b None = tt
  of-disarms b (Some h) = (refl, refl, tt)

  known-turn : (legs : List Leg) (c : CallRec) (b : Option Leg) → ((g : Leg) → b ≡ Some g → BeginsAtNode s n g) →
      IsRouteKnown o (turn legs c b)
  known-turn legs c None begins = known-put c
  known-turn legs c (Some b) begins =
      if_cases (IsRouteKnown o) (is_held b.phase) _ _
      (λ held. if_cases (IsRouteKnown o) (is_contended legs b) _ _ (λ busy. known-put (stuck c (Code busy_code)))
      (λ free. (let r = has-route b (begins b refl) in
      known-of o b.lsp r.0 (arms c b) (of-arms b (following b)) r.1)))
      (λ held. known-put c)

  known-back : (c : CallRec) (b : Option Leg) → ((g : Leg) → b ≡ Some g → BeginsAtNode s n g) →
      IsRouteKnown o (go_back c b)
  known-back c None begins = known-put c
  known-back c (Some b) begins =
      if_cases (IsRouteKnown o) (is_in_use b.phase) _ _
      (λ used. (let r = has-route b (begins b refl) in
      known-of o b.lsp r.0 (disarms c b) (of-disarms b (following b)) r.1))
      (λ used. known-put c)

  -- A turn adds at most turn_most: what the Path that activates the backup weighs over the longest route. The rule read
  -- these legs.
  pub turn-expand : (legs : List Leg) (c : CallRec) (b : Option Leg) → ((g : Leg) → b ≡ Some g → BeginsAtNode s n g) →
      Expands s n o turn_most (turn legs c b)
  turn-expand legs c b begins =
      expands-known s n o turn_most (turn legs c b) (known-turn legs c b begins)
      (turn-grow t s n o f short legs c b begins)

  -- Going back adds at most a Path that takes the activation back over each hop.
  pub back-expand : (c : CallRec) (b : Option Leg) (state : CallState) → state ≡ Turned → BackFits s n state b →
      Expands s n o MOST_LINKS_OF_ROUTE (go_back c b)
  back-expand c b state is fit =
      expands-known s n o MOST_LINKS_OF_ROUTE (go_back c b) (known-back c b (λ g h. (fit g h).begins))
      (go_back-grow t s n o f short c b state is fit)

  decided-expand : (legs : List Leg) (c : CallRec) (b : Option Leg) (state : CallState) → BackFits s n state b →
      (works backs : Bool) → Expands s n o turn_most (decided legs c b state works backs)
  decided-expand legs c b Guarded fit true false = turn-expand legs c b (λ g is. (fit g is).begins)
  decided-expand legs c b Guarded fit true true = put-expand turn_most (stuck c BackDown)
  decided-expand legs c b Guarded fit false backs = put-expand turn_most c
  decided-expand legs c b Turned fit false true =
      expands-more s n o MOST_LINKS_OF_ROUTE turn_most (go_back c b) (omega arith) (back-expand c b Turned refl fit)
  decided-expand legs c b Turned fit false false = put-expand turn_most c
  decided-expand legs c b Turned fit true backs = put-expand turn_most c
  decided-expand legs c b Stuck fit false backs = put-expand turn_most (guarded c)
  decided-expand legs c b Stuck fit true backs = put-expand turn_most c
  decided-expand legs c b Asking fit works backs = put-expand turn_most c
  decided-expand legs c b Bare fit works backs = put-expand turn_most c
  decided-expand legs c b Pairing fit works backs = put-expand turn_most c
  decided-expand legs c b Turning fit works backs = put-expand turn_most c
  decided-expand legs c b Blocked fit works backs = put-expand turn_most c

  -- Whether a call turns or goes back, it adds at most turn_most.
  pub decide-expand : (legs : List Leg) (c : CallRec) (b : Option Leg) → BackFits s n c.state b →
      Expands s n o turn_most (decide legs c b)
  decide-expand legs c b fit = decided-expand legs c b c.state fit (has_any c.work_reports) (has_any c.back_reports)

  -- a turned call may go back at once, and nothing else
  turned-decides : (legs : List Leg) (c : CallRec) (b : Option Leg) → BackFits s n Turned b → (works backs : Bool) →
      Expands s n o MOST_LINKS_OF_ROUTE (decided legs c b Turned works backs)
  turned-decides legs c b fit false true = back-expand c b Turned refl fit
  turned-decides legs c b fit false false = put-expand MOST_LINKS_OF_ROUTE c
  turned-decides legs c b fit true backs = put-expand MOST_LINKS_OF_ROUTE c

  -- A backup that is Live at its ingress adds at most what going back adds, since its call may do so at once.
  pub turned-expand : (st : NodeState) (b : Leg) → BackStands s n Turned b → (called : Option CallRec) →
      Expands s n o MOST_LINKS_OF_ROUTE (call_turned st b called)
  turned-expand st b stands None = none-expand MOST_LINKS_OF_ROUTE
  turned-expand st b stands (Some c) =
      if_cases (Expands s n o MOST_LINKS_OF_ROUTE) (is_turning c.state) _ _
      (λ h. turned-decides st.legs (turned c) (Some b) (λ g is. subst (BackStands s n Turned) (same b g is) stands)
      (has_any c.work_reports) (has_any c.back_reports))
      (λ h. none-expand MOST_LINKS_OF_ROUTE)
    where
      same : (b g : Leg) → Some b ≡ Some g → b ≡ g
      same b g is = cc is

  -- a stuck call doesn't move
  stuck-expand : (legs : List Leg) (c : CallRec) (b : Option Leg) (works backs : Bool) →
      Expands s n o 0 (decided legs c b Stuck works backs)
  stuck-expand legs c b false backs = put-expand 0 (guarded c)
  stuck-expand legs c b true backs = put-expand 0 c

  -- A contended backup adds nothing: its call is stuck until a clock or an order tries it again.
  pub contended-expand : (st : NodeState) (b : Leg) (called : Option CallRec) →
      Expands s n o 0 (call_contended st b called)
  contended-expand st b None = none-expand 0
  contended-expand st b (Some c) =
      if_cases (Expands s n o 0) (is_turning c.state) _ _
      (λ h. stuck-expand st.legs (stuck c (Code busy_code)) (Some b) (has_any c.work_reports) (has_any c.back_reports))
      (λ h. none-expand 0)

  -- A backup is asked for

  module _ (st : NodeState) (number : st.lsp ≡ (s.nodes n.0).lsp) where
    abbrev place : LocalNode
    place = local_node t n

    module _ (c : CallRec) (w : Leg) (here : w.lsp.ingress ≡ n) where
      bare-expand : (cause : Cause) → Expands s n o pair_most (leaves_bare c cause)
      bare-expand cause = expands-quiet s n o pair_most (leaves_bare c cause)
          (record { legs = refl; sent = refl; numbers = refl })

      admitted-expand : (out : LinkSpec) (route : List Step) → length route < MOST_LINKS_OF_ROUTE →
          Expands s n o pair_most (admitted_backup place st c w out route)
      admitted-expand out route small =
          if_cases (Expands s n o pair_most) (nat_lt LAST_NUMBER st.lsp) _ _ (λ h. bare-expand Spent)
          (λ h. if_cases (Expands s n o pair_most) (is_full st) _ _ (λ h. bare-expand Full)
          (λ h. if_cases (Expands s n o pair_most) (lacks_first_back place st (is_two_way w) (guarding place w) out) _ _
          (λ h. bare-expand (Code label_code))
          (λ h. (let blank = new-blank t s o n (beside_lsp w.lsp st.lsp) f here (omega (arith, number)) in
          expands-more s n o (suc (length route) + way * suc way) pair_most _ (omega arith)
          (begins-expand t s o n st (backup_lsp place st w out route) (pairing c (beside_lsp w.lsp st.lsp))
          (record { tunnel = st.tunnel; lsp = st.lsp + 1 }) blank.1 blank.0 small)))))

      over-expand : (route : List Step) (out : Option LinkSpec) → first_link place route ≡ out →
          Expands s n o pair_most (over_backup place st c w route out)
      over-expand route None is = bare-expand NoBackup
      over-expand route (Some out) is = admitted-expand out (drop 1 route) (first-short place route out is)

      along-expand : (route : Option (List Step)) → Expands s n o pair_most (pair_over place st c w route)
      along-expand None = bare-expand NoBackup
      along-expand (Some route) = over-expand route (first_link place route) refl

      -- A call that asks for its backup adds at most pair_most: the first Path over the longest route.
      pub pair-expand : Expands s n o pair_most (pair (local_node t n) st c w)
      pair-expand =
          if_cases (Expands s n o pair_most) (is_some (unknown_link (known_rows place st) (route_from place w))) _ _
          (λ h. bare-expand NoBackup) (λ h. along-expand (backup_route place st c w))

    module _ (g : Leg) (begins : g.lsp.ingress ≡ n) where
      -- a working LSP has its labels, and its call may ask for a backup; or a backup has, and its call may turn
      pub answered-expand : leg_at s g.lsp n ≡ Some g → (called : Option CallRec) →
          (is_work g.role ≡ true → Expands s n o pair_most (call_answered (local_node t n) st g called)) ×
          (is_work g.role ≡ false →
          Expands s n o turn_most (call_answered (local_node t n) st g called))
      answered-expand there None = (λ w. none-expand pair_most, λ w. none-expand turn_most)
      answered-expand there (Some c) = (
        λ w. rw w (if_cases (Expands s n o pair_most) (is_asking c.state) _ _
            (λ h. if_cases (Expands s n o pair_most) c.protected _ _ (λ p. pair-expand c g begins)
            (λ p. put-expand pair_most (bare c)))
            (λ h. none-expand pair_most)),
        λ w. rw w (if_cases (Expands s n o turn_most) (is_pairing c.state) _ _
            (λ h. decide-expand st.legs (guarded c) (Some g) (guarded_fits s n g there begins))
            (λ h. none-expand turn_most)),
      )

  -- A refused LSP adds nothing.
  pub refused-expand : (code : ErrCode) (g : Leg) (called : Option CallRec) →
      Expands s n o 0 (call_refused code g called)
  refused-expand code g None = none-expand 0
  refused-expand code g (Some c) =
      if_cases (Expands s n o 0) (is_work g.role) _ _
      (λ work. if_cases (Expands s n o 0) (is_asking c.state) _ _
      (λ h. put-expand 0 (blocked c (Code code))) (λ h. none-expand 0))
      (λ h. if_cases (Expands s n o 0) (is_pairing c.state) _ _
      (λ h. expands-quiet s n o 0 (leaves_bare c (Code code)) (record { legs = refl; sent = refl; numbers = refl }))
      (λ h. none-expand 0))
