-- A backup is asked for beside a working LSP, at their ingress; and what else becomes of a call there.
use Rattle.std.proofs.Common.{◌≡◌, ◌+◌, ℕ, zero, suc, true, false, nat_lt, List, [], ◌∷◌, refl, sym, ap, ◌∙◌, subst, arith, inl, inr}
use Rattle.std.specs.Prelude.{Option, Some, None, is_some}
use Rattle.ason_base.specs.{Network.Network, Risks.unknown_link, Routes.{is_beside, makes_route}, declared.codes.ErrCode.ErrCode, declared.ids.Lsp.Lsp, declared.ids.NodeId.NodeId, declared.steps.Step.Step, declared.network.LinkSpec.LinkSpec, Codes.label_code, declared.calls.Cause.Cause, declared.calls.Cause.TheVariants.{Code, Full, NoBackup, Spent}, declared.calls.Phase.TheVariants.Armed, declared.tables.CallRec.CallRec, declared.tables.Leg.Leg}
use Rattle.ason_base.specs.declared.calls.Role.TheVariants as role
use Rattle.ason_base.proofs.{Bools.and-left, JoinedEnds.same-node}
use Rattle.mesh_rules.specs.{State.NodeState, Changes.{Answer, nothing}, LocalNodes.{LocalNode, local_node, own_link}, Commands.is_searchable, declared.limits.TheConstants.LAST_NUMBER, Calls.{bare, blocked, call_with, guarded, is_asking, is_pairing, pairing}, CallSteps.{call_answered, call_refused}, Turns.call_put, FirstLegs.{first_link, is_full, lacks_first_back}, KnownRows.known_rows, LeastRoutes.{Trip, least_backup}, Legs.{is_work, previous}, Machine.Mesh, Pairs.{admitted_backup, backup_lsp, backup_route, beside_lsp, given_or_found, guarding, is_two_way, leaves_bare, over_backup, over_fibre, pair, pair_over, route_from}}
use Rattle.lsp_laws.specs.HopLaw.{leg_at}
use Rattle.mesh_nodes.specs.Routes.{AreRowsOf}
use Rattle.mesh_nodes.proofs.{Cases.if_cases, routes.Beside.found-beside, routes.Nodes.known-are}
use Rattle.lsp_laws.proofs.{hops.Plans.{Plan, plan, node_at, fibre_at, IsPlanRoute, lt_true}, hops.LegChanges.{armed_role, previous_is}, hops.Purposes.{Purpose, Guards}, hops.Risks.recorded-fit, hops.Chain.LegFitsPlan, hops.Labels.first_back_of_link, hops.Own.IsQuietAnswer, hops.Turned.{decide_stepped, guarded_fits}, hops.Planned.{Routes, Planned, Follows, EachFollows}, hops.Stepped.{EachStepped, starts_over, stepped_quiet}, hops.Begun.begins_stepped}

-- The whole route of an LSP that begins here

pub along : (t : Network) (l : Lsp) (q : Purpose) (n e : NodeId) (route : List Step) (w : Leg) → l.ingress ≡ n →
    IsPlanRoute t l.ingress (plan route e) → LegFitsPlan t q l (plan route e) 0 w →
    route_from (local_node t n) w ≡ route
along t l q n e [] w here route fits = absurd (let long = route.long in omega arith)
along t l q n e (hop ∷ further) w here route fits =
    let out : w.out_fibre ≡ Some (fibre_at t (plan (hop ∷ further) e) 0) =
    (let is = fits.out_fibre in rw (lt_true route.long) at is) in
    ap (λ f. over_fibre n f w.route) out ∙
    ap (λ r. record { node = n; link = hop.link } ∷ r) fits.route ∙
    (λ i. record { node = sym (route.first ∙ here) i; link = hop.link } ∷ further)

pub whole-route : (t : Network) (s : Mesh) (o : Routes) (l : Lsp) (n : NodeId) (w : Leg) (c : Option (List Step)) →
    Follows t s o l c → l.ingress ≡ n → leg_at s l n ≡ Some w → c ≡ Some (route_from (local_node t n) w)
whole-route t s o l n w None f here stands = absurd (let none = f.legs n in cc (none, stands))
whole-route t s o l n w (Some route) (e, q, pl) here stands =
    let first : leg_at s l (node_at (plan route e) 0) ≡ Some w =
    subst (λ m. leg_at s l m ≡ Some w) (sym (pl.route.first ∙ here)) stands in
    let fits : LegFitsPlan t q l (plan route e) 0 w = rw first at (pl.chain.fits 0 (omega arith)) in
    ap Some (sym (along t l q n e route w here pl.route fits))

-- which leads to its egress
pub whole-made : (t : Network) (s : Mesh) (o : Routes) (l : Lsp) (n : NodeId) (w : Leg) (c : Option (List Step)) →
    Follows t s o l c → l.ingress ≡ n → leg_at s l n ≡ Some w →
    makes_route t l.ingress w.egress (route_from (local_node t n) w) ≡ true
whole-made t s o l n w None f here stands = absurd (let none = f.legs n in cc (none, stands))
whole-made t s o l n w (Some route) (e, q, pl) here stands =
    let first : leg_at s l (node_at (plan route e) 0) ≡ Some w =
    subst (λ m. leg_at s l m ≡ Some w) (sym (pl.route.first ∙ here)) stands in
    let fits : LegFitsPlan t q l (plan route e) 0 w = rw first at (pl.chain.fits 0 (omega arith)) in
    rw (fits.egress, along t l q n e route w here pl.route fits) pl.made

-- a leg has a place on the route of its LSP
leg_place : (t : Network) (s : Mesh) (o : Routes) (l : Lsp) (n : NodeId) (g : Leg) (q : Purpose) (p : Plan) →
    Planned t s o l q p → leg_at s l n ≡ Some g → (i : ℕ) × (n ≡ node_at p i) × LegFitsPlan t q l p i g
leg_place t s o l n g q p pl here = elim (pl.chain.legs n) [
  | inl none ↦ absurd (cc (none, here))
  | inr (i, small, at_n) ↦ (let is = same-node n (node_at p i) at_n in
      let fits : LegFitsPlan t q l p i g = rw (← is, here) at (pl.chain.fits i small) in (i, is, fits))
]

-- an LSP begins where its leg has no previous node
pub no_previous : (t : Network) (s : Mesh) (o : Routes) (l : Lsp) (n : NodeId) (g : Leg) (c : Option (List Step)) →
    Follows t s o l c → leg_at s l n ≡ Some g → previous g ≡ None → l.ingress ≡ n
no_previous t s o l n g None f here first = absurd (let none = f.legs n in cc (none, here))
no_previous t s o l n g (Some route) (e, q, pl) here first =
    let there = leg_place t s o l n g q (plan route e) pl here in
    sym (there.1 ∙ at_place there.0 there.2 ∙ pl.route.first)
  where
    at_place : (i : ℕ) → LegFitsPlan t q l (plan route e) i g →
        node_at (plan route e) i ≡ node_at (plan route e) 0
    at_place zero fits = refl
    at_place (suc j) fits = absurd (let some = previous_is t q l (plan route e) j g fits in cc (some, first))

-- an Armed leg is a backup's
pub armed_backup : (t : Network) (s : Mesh) (o : Routes) (l : Lsp) (n : NodeId) (g : Leg) (c : Option (List Step)) →
    Follows t s o l c → leg_at s l n ≡ Some g → g.phase ≡ Armed → g.role ≡ role.Back
armed_backup t s o l n g None f here armed = absurd (let none = f.legs n in cc (none, here))
armed_backup t s o l n g (Some route) (e, q, pl) here armed =
    let there = leg_place t s o l n g q (plan route e) pl here in
    armed_role t q l (plan route e) there.0 g there.2 armed

-- A backup beside it

-- a route that the call was given for it stands beside that of the working LSP, and without one the links can be
-- searched
pub record MayPair (t : Network) (n : NodeId) (o : Routes) (c : CallRec) (w : Leg) : Type 0 where
  pub given : (primary route : List Step) → o w.lsp ≡ Some primary → c.backup ≡ Some route →
      is_beside t n w.egress (Some primary) route ≡ true
  pub searched : c.backup ≡ None → is_searchable t ≡ true

-- each protected call whose working LSP has a leg where it begins may be given a backup beside it
abbrev pub CallsMayPair : Network → Mesh → Routes → Type 0
CallsMayPair t s o =
    (n : NodeId) (g : Leg) (c : CallRec) → leg_at s g.lsp n ≡ Some g →
    call_with g.lsp (s.nodes n.0).calls ≡ Some c → is_work g.role ≡ true → c.protected ≡ true → MayPair t n o c g

-- The node n read st when the rule came to it. w is the leg of the working LSP, which begins there.
module _ (t : Network) (s : Mesh) (n : NodeId) (o : Routes) (f : EachFollows t s o) (st : NodeState)
    (number : st.lsp ≡ (s.nodes n.0).lsp) (are : AreRowsOf t st.learnt) where
  abbrev place : LocalNode
  place = local_node t n

  abbrev Steps : Answer → Type 0
  Steps a = EachStepped t s n o a

  pub quiet_stepped : (a : Answer) → IsQuietAnswer a → EachStepped t s n o a
  quiet_stepped a quiet = stepped_quiet t s n o a f quiet

  put_stepped : (c : CallRec) → Steps (call_put c)
  put_stepped c = quiet_stepped (call_put c) (record { legs = refl; sent = refl; numbers = refl })

  none_stepped : Steps nothing
  none_stepped = quiet_stepped nothing (record { legs = refl; sent = refl; numbers = refl })

  module _ (c : CallRec) (w : Leg) (here : w.lsp.ingress ≡ n) (may : MayPair t n o c w)
      (sent : o w.lsp ≡ Some (route_from (local_node t n) w)) where
    bare_stepped : (cause : Cause) → Steps (leaves_bare c cause)
    bare_stepped cause = quiet_stepped (leaves_bare c cause) (record { legs = refl; sent = refl; numbers = refl })

    abbrev primary : List Step
    primary = route_from (local_node t n) w

    module _ (known : is_some (unknown_link (known_rows place st) (route_from place w)) ≡ false) where
      stands : (given : Option (List Step)) (found : Option Trip) → c.backup ≡ given →
          least_backup (known_rows place st) (route_from place w) n w.egress ≡ found →
          (route : List Step) → given_or_found given found ≡ Some route →
          is_beside t n w.egress (Some (route_from (local_node t n) w)) route ≡ true
      stands (Some r) found is least route e = may.given primary route sent (is ∙ e)
      stands None None is least route e = absurd (cc e)
      stands None (Some r) is least route e =
          let same : r.steps ≡ route = cc e in
          subst (λ x. is_beside t n w.egress (Some (route_from (local_node t n) w)) x ≡ true) same
          (found-beside t n w.egress st primary r (may.searched is) are known least)

      admitted_stepped : (out : LinkSpec) (hop : Step) (further : List Step) →
          is_beside t n w.egress (Some (route_from (local_node t n) w)) (hop ∷ further) ≡ true →
          own_link (local_node t n) hop.link ≡ Some out → Steps (admitted_backup place st c w out further)
      admitted_stepped out hop further beside over =
          let made = and-left (makes_route t n w.egress (hop ∷ further)) _ beside in
          if_cases Steps (nat_lt LAST_NUMBER st.lsp) _ _ (λ h. bare_stepped Spent) (λ h.
          if_cases Steps (is_full st) _ _ (λ h. bare_stepped Full) (λ h.
          if_cases Steps (lacks_first_back place st (is_two_way w) (guarding place w) out) _ _
          (λ h. bare_stepped (Code label_code)) (λ h.
          begins_stepped t s n o st (Guards w.lsp.lsp (route_from place w)) (backup_lsp place st w out further) hop
          (pairing c (beside_lsp w.lsp st.lsp)) (record { tunnel = st.tunnel; lsp = st.lsp + 1 })
          made over here number (omega arith) (refl, refl) refl
          (recorded-fit t (Guards w.lsp.lsp (route_from place w)) (known_rows place st)
          (backup_lsp place st w out further).role
          (λ searchable. known-are t n st searchable are) (refl, refl) known)
          sent (rw here beside) (first_back_of_link place st (is_two_way w) (guarding place w) out) f)))

      over_stepped : (route : List Step) →
          is_beside t n w.egress (Some (route_from (local_node t n) w)) route ≡ true → (out : Option LinkSpec) →
          first_link place route ≡ out → Steps (over_backup place st c w route out)
      over_stepped route beside None e = bare_stepped NoBackup
      over_stepped route beside (Some out) e =
          let first = starts_over place route out e in
          rw first.is (admitted_stepped out first.hop first.further (rw first.is at beside) first.over)

      along_stepped : (route : Option (List Step)) → backup_route place st c w ≡ route →
          Steps (pair_over place st c w route)
      along_stepped None e = bare_stepped NoBackup
      along_stepped (Some route) e =
          over_stepped route
          (stands c.backup (least_backup (known_rows place st) (route_from place w) n w.egress) refl refl route e)
          (first_link place route) refl

    pub pair_stepped : EachStepped t s n o (pair (local_node t n) st c w)
    pair_stepped =
        if_cases Steps (is_some (unknown_link (known_rows place st) (route_from place w))) _ _
        (λ h. bare_stepped NoBackup)
        (λ h. along_stepped h (backup_route place st c w) refl)

  -- What becomes of a call

  -- the leg of the LSP begins here; that of a working LSP whose call wants a backup may have one beside it
  module _ (g : Leg) (here : g.lsp.ingress ≡ n) (sent : o g.lsp ≡ Some (route_from (local_node t n) g)) where
    pub answered_stepped : leg_at s g.lsp n ≡ Some g → (called : Option CallRec) →
        ((c : CallRec) → called ≡ Some c → is_work g.role ≡ true → c.protected ≡ true → MayPair t n o c g) →
        EachStepped t s n o (call_answered (local_node t n) st g called)
    answered_stepped stands None may = none_stepped
    answered_stepped stands (Some c) may =
        if_cases Steps (is_work g.role) _ _
        (λ work. if_cases Steps (is_asking c.state) _ _
        (λ h. if_cases Steps c.protected _ _
        (λ protected. pair_stepped c g here (may c refl work protected) sent)
        (λ h. put_stepped (bare c)))
        (λ h. none_stepped))
        (λ h. if_cases Steps (is_pairing c.state) _ _ (λ h. decide_stepped t s n o f st.legs (guarded c) (Some g)
        (guarded_fits s n g stands here)) (λ h. none_stepped))

    pub refused_stepped : (code : ErrCode) (called : Option CallRec) →
        EachStepped t s n o (call_refused code g called)
    refused_stepped code None = none_stepped
    refused_stepped code (Some c) =
        if_cases Steps (is_work g.role) _ _
        (λ work. if_cases Steps (is_asking c.state) _ _ (λ h. put_stepped (blocked c (Code code))) (λ h. none_stepped))
        (λ h. if_cases Steps (is_pairing c.state) _ _
        (λ h. quiet_stepped (leaves_bare c (Code code)) (record { legs = refl; sent = refl; numbers = refl }))
        (λ h. none_stepped))
