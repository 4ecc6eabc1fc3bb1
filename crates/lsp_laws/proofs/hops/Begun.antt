-- An LSP is begun at its ingress, a working one by a setup.
use Rattle.std.proofs.Common.{◌≡◌, ◌≢◌, ◌<◌, ◌≤◌, ◌+◌, ℕ, suc, Bool, true, false, cond, nat_eq, nat_lt, List, [], ◌∷◌, length, refl, sym, ap, ◌∙◌, subst, arith, inl, inr}
use Rattle.std.specs.Prelude.{◌⊎◌, Option, Some, None}
use Rattle.ason_base.specs.{Labels.{has, up_to}, Network.{Network, other_end}, Lsps.same_lsp, declared.ids.Lsp.Lsp, declared.ids.NodeId.NodeId, declared.steps.Step.Step, declared.network.LinkSpec.LinkSpec, Codes.label_code, declared.calls.Cause.Cause, declared.calls.CallState.TheVariants.Asking, declared.calls.Cause.TheVariants.{Code, Unset, NoRoute, Spent, Full}, declared.messages.PathRole.TheVariants.Work, declared.messages.Msg.Msg, declared.messages.Msg.TheVariants.Path, declared.tables.CallRec.CallRec, declared.tables.Leg.Leg, Routes.makes_route}
use Rattle.ason_base.proofs.{Bools.and-left, Numbers.self-number, JoinedEnds.same-node}
use Rattle.mesh_rules.specs.{Changes.{Answer, nothing, changed}, LocalNodes.{LocalNode, labels_of, local_node, own_link, fibre_out}, State.NodeState, Commands.is_searchable, KnownRows.known_rows, LeastRoutes.{Trip, least_trip}, declared.changes.NextNumbers.NextNumbers, FirstLegs.{NewLsp, asks_for, first_leg, first_link, is_full, lacks_first_back}, Paths.recorded, Setups.{SetupRequest, refused_setup, is_order_here, admitted_setup, call_record, next_lsp, working_lsp, is_spent, over_first, over_found, new_call, setup_with}, Machine.{Mesh, commit}, Events.{first_route, or_route}}
use Rattle.lsp_laws.specs.{HopLaw.{leg_at, mail_between}, HopShapes.{PlainPath, path_kind}, LabelLaw.HasBackLabelOfLink}
use Rattle.lsp_laws.proofs.{hops.Plans.{Plan, plan, node_at, fibre_at, IsPlanRoute, LinkLeads, route_made, distinct, lt_true, own_near, fibre_out_is}, hops.Views.{leg-here, leg-there, mail-from, mail-else, notices-plain}, hops.Purposes.{Purpose, Carries, Each, Tells, tells_role}, hops.Chain.{LegFitsPlan, RisksFit, Chain, asked_fits, is_or_not, no_back_out, no_label_in}, hops.Labels.{first_back_of_link, same_link}, hops.Sending.{sent_of_lsp, sent-first, sent-past}, hops.OtherLsps.{leg-other, mail-other}, hops.Own.IsOf, hops.Planned.{Planned, Routes, IsGuarded, StandsBeside, Follows, EachFollows, IsLspUntouched, SameOf, follows_same, guarded_grown}, hops.Notices.ComesUp, hops.Stepped.{EachStepped, LspStepped, chain_begun, grown, grown-grow, starts_over, stepped_none, stepped_quiet}}
use Rattle.mesh_nodes.specs.Routes.{AreRowsOf}
use Rattle.mesh_nodes.proofs.{Cases.if_cases, routes.Nodes.found-leads, LegList.{same_lsp-eq, same_lsp-refl}}

-- It is asked for from the node n, which read st when the rule came to it.
module _ (t : Network) (s : Mesh) (n : NodeId) (o : Routes) (st : NodeState) (q : Purpose) (w : NewLsp) (hop : Step)
    (c : CallRec) (next : NextNumbers) (made : makes_route t n w.egress (hop ∷ w.route) ≡ true)
    (over : own_link (local_node t n) hop.link ≡ Some w.out) (from : w.lsp.ingress ≡ n)
    (number : w.lsp.lsp ≡ (s.nodes n.0).lsp) (more : w.lsp.lsp < next.lsp) (tells : Tells q w.role)
    (plain : path_kind w.role ≡ PlainPath)
    (risks : RisksFit t q (recorded (known_rows (local_node t n) st) w.role)) (guards : IsGuarded o w.lsp q)
    (beside : StandsBeside t w.lsp q (plan (hop ∷ w.route) w.egress))
    (back : (x : ℕ) → w.back ≡ Some x → has (up_to (labels_of (own_link (local_node t n) w.out.id))) x ≡ true) where
  abbrev p : Plan
  p = plan (hop ∷ w.route) w.egress

  abbrev answer : Answer
  answer = asks_for (local_node t n) st w c next

  abbrev leg : Leg
  leg = first_leg (local_node t n) (known_rows (local_node t n) st) w

  abbrev path : Msg
  path = Path w.lsp w.egress w.out.id w.route (up_to w.out.labels) w.back w.role

  makes : makes_route t w.lsp.ingress w.egress (hop ∷ w.route) ≡ true
  makes = rw from made

  route : IsPlanRoute t w.lsp.ingress (plan (hop ∷ w.route) w.egress)
  route = route_made t w.lsp.ingress w.egress (hop ∷ w.route) (omega arith) makes

  at_n : hop.node ≡ n
  at_n = route.first ∙ from

  first : LinkLeads t hop.link hop.node (node_at (plan (hop ∷ w.route) w.egress) 1)
  first = route.links 0 (omega arith)

  link_is : first.link ≡ w.out
  link_is =
      let found : own_link (local_node t hop.node) hop.link ≡ Some first.link =
      own_near t hop.link hop.node (node_at p 1) first in
      let over' : own_link (local_node t hop.node) hop.link ≡ Some w.out = rw at_n over in
      cc (found, over')

  id_is : w.out.id ≡ hop.link
  id_is = rw (← link_is) first.id

  end_is : other_end w.out n ≡ node_at (plan (hop ∷ w.route) w.egress) 1
  end_is = ap (other_end w.out) (sym at_n) ∙ ap (λ k. other_end k hop.node) (sym link_is) ∙ first.far

  fibre_is : fibre_out w.out n ≡ fibre_at t (plan (hop ∷ w.route) w.egress) 0
  fibre_is =
      ap (fibre_out w.out) (sym at_n) ∙ ap (λ k. fibre_out k hop.node) (sym link_is) ∙
      fibre_out_is t p 0 (distinct t w.lsp.ingress p route 0 1 (omega arith) (omega arith) (omega arith)) first

  back_fits : HasBackLabelOfLink (local_node t hop.node) leg
  back_fits =
      subst (λ m. HasBackLabelOfLink (local_node t m) leg) (sym at_n)
      (λ f x on is. same_link (local_node t n) (fibre_out w.out n) f x on (back x is))

  leg_fits : LegFitsPlan t q w.lsp p 0 leg
  leg_fits =
      let some : nat_lt 0 (suc (length w.route)) ≡ true = lt_true {a = 0} {b = suc (length w.route)} (omega arith) in
      record {
        own = refl;
        egress = refl;
        role = tells_role q w.role tells;
        tells = tells;
        risks = risks;
        prev = refl;
        in_fibre = refl;
        next = rw some (ap Some end_is);
        out_fibre = rw some (ap Some fibre_is);
        route = refl;
        sent = tt;
        phase = asked_fits q 0 (suc (length w.route)) (omega arith);
        labels = no_label_in (local_node t (node_at p 0)) leg refl (λ keeps. no_back_out leg refl) back_fits;
      }

  goes_to : (b : NodeId) → b.0 ≢ (node_at (plan (hop ∷ w.route) w.egress) 1).0 → sent_of_lsp w.lsp answer.sent b ≡ []
  goes_to b ne = sent-past w.lsp (other_end w.out n) b path [] (rw end_is ne)

  comes_to : sent_of_lsp w.lsp answer.sent (node_at p 1) ≡ path ∷ []
  comes_to = rw (← end_is) (sent-first w.lsp (other_end w.out n) path [] (same_lsp-refl w.lsp))

  new_chain : IsLspUntouched s w.lsp →
      Chain t q w.lsp p (leg_at (commit s n.0 answer) w.lsp) (mail_between (commit s n.0 answer) w.lsp)
  new_chain blank =
      chain_begun t q w.lsp p _ _ leg w.egress w.out.id w.route (up_to w.out.labels) w.role
      plain route
      (rw at_n (leg-here s n w.lsp answer ∙ rw (same_lsp-refl w.lsp) refl)) leg_fits refl refl
      (λ m ne. leg-there s n m w.lsp answer (rw at_n at ne) ∙ blank.legs m)
      (rw at_n (mail-from s n (node_at p 1) w.lsp answer ∙ rw (blank.mail n (node_at p 1)) comes_to))
      refl (refl, id_is, refl, tells)
      (λ a b far. empty a b far (is_or_not a.0 n.0))
    where
      empty : (a b : NodeId) → (a.0 ≢ hop.node.0) ⊎ (b.0 ≢ (node_at (plan (hop ∷ w.route) w.egress) 1).0) →
          (a.0 ≡ n.0) ⊎ (a.0 ≢ n.0) →
          mail_between (commit s n.0 answer) w.lsp a b ≡ []
      empty a b far (inr ne) = mail-else s n a b w.lsp answer ne ∙ blank.mail a b
      empty a b (inl ne) (inl x) = absurd (ne (rw at_n x))
      empty a b (inr ne) (inl x) =
          let is = same-node a n x in
          rw is (mail-from s n b w.lsp answer ∙ rw (blank.mail n b) (goes_to b ne))

  new_planned : IsLspUntouched s w.lsp → Planned t (commit s n.0 answer) (grown n o answer) w.lsp q p
  new_planned blank =
      let here : nat_eq w.lsp.ingress.0 n.0 ≡ true = rw from (self-number n.0) in
      record {
        route = route;
        made = makes;
        chain = new_chain blank;
        notices = λ a b. subst (Each (ComesUp p a b))
            (sym (notices-plain s n a b w.lsp answer (refl, tt) ∙ blank.notices a b)) tt;
        number = rw here more;
        guards = guarded_grown o (grown n o answer) w.lsp q (grown-grow n o answer) guards;
        beside = beside;
      }

  hop_is : hop ≡ record { node = w.lsp.ingress; link = w.out.id }
  hop_is = λ i. record { node = route.first i; link = sym id_is i }

  route_sent : o w.lsp ≡ None → grown n o answer w.lsp ≡ Some (hop ∷ w.route)
  route_sent none =
      let here : nat_eq n.0 w.lsp.ingress.0 ≡ true = rw from (self-number n.0) in
      let sent : first_route w.lsp (cond (nat_eq n.0 w.lsp.ingress.0) answer.sent []) ≡
      Some (record { node = w.lsp.ingress; link = w.out.id } ∷ w.route) =
      rw (here, same_lsp-refl w.lsp) refl in
      ap (λ x. or_route x (first_route w.lsp (cond (nat_eq n.0 w.lsp.ingress.0) answer.sent []))) none ∙ sent ∙
      ap (λ h. Some (h ∷ w.route)) (sym hop_is)

  new_stepped : o w.lsp ≡ None → IsLspUntouched s w.lsp → LspStepped t s n o w.lsp answer
  new_stepped none blank = record {
    follows = subst (Follows t (commit s n.0 answer) (grown n o answer) w.lsp) (sym (route_sent none))
        (w.egress, q, new_planned blank);
  }

  other_same : (l : Lsp) → same_lsp w.lsp l ≡ false → SameOf s (commit s n.0 answer) l
  other_same l apart =
      let of : IsOf w.lsp answer = record { legs = (refl, tt); sent = (refl, refl, tt) } in
      record {
        still = record {
          legs = λ m. leg-other s n m w.lsp l answer of apart;
          mail = λ a b. mail-other s n a b w.lsp l answer of apart;
          next = later (nat_eq l.ingress.0 n.0) refl;
        };
        notices = λ a b. notices-plain s n a b l answer (refl, tt);
      }
    where
      later : (b : Bool) → nat_eq l.ingress.0 n.0 ≡ b →
          (s.nodes l.ingress.0).lsp ≤ (cond b (changed (s.nodes l.ingress.0) answer) (s.nodes l.ingress.0)).lsp
      later true e = let is : l.ingress.0 ≡ n.0 = grind arith in rw (is, ← number) (omega arith)
      later false e = omega arith

  -- no number is given out twice
  not_begun : (route : List Step) → Follows t s o w.lsp (Some route) → ⊥
  not_begun route (e, q', pl) =
      let below : w.lsp.lsp < (s.nodes n.0).lsp = rw from at pl.number in omega arith

  begins_lsp : (l : Lsp) (h : Option (List Step)) → o l ≡ h → Follows t s o l h → (b : Bool) →
      same_lsp w.lsp l ≡ b → LspStepped t s n o l answer
  begins_lsp l h is f false e =
      stepped_none t s n o l answer
      (subst (Follows t (commit s n.0 answer) o l) (sym is)
      (follows_same t s (commit s n.0 answer) o l h (other_same l e) f))
      (rw e refl)
  begins_lsp l None is f true e =
      let own = same_lsp-eq w.lsp l e in
      subst (λ l. LspStepped t s n o l answer) own (new_stepped (rw own is) (rw own f))
  begins_lsp l (Some r) is f true e =
      let own = same_lsp-eq w.lsp l e in
      absurd (not_begun r (subst (λ l. Follows t s o l (Some r)) (sym own) f))

  pub begins_stepped : EachFollows t s o → EachStepped t s n o answer
  begins_stepped f l = begins_lsp l (o l) refl (f l) (same_lsp w.lsp l) refl

-- A setup

module _ (t : Network) (s : Mesh) (n : NodeId) (o : Routes) (f : EachFollows t s o) where
  abbrev place : LocalNode
  place = local_node t n

  abbrev state : NodeState
  state = s.nodes n.0

  abbrev Steps : Answer → Type 0
  Steps a = EachStepped t s n o a

  pub stepped_nothing : EachStepped t s n o nothing
  stepped_nothing = stepped_quiet t s n o nothing f (record { legs = refl; sent = refl; numbers = refl })

  refused_stepped : (w : SetupRequest) (cause : Cause) → Steps (refused_setup w cause)
  refused_stepped w cause =
      stepped_quiet t s n o (refused_setup w cause) f (record { legs = refl; sent = refl; numbers = refl })

  module _ (w : SetupRequest) where
    admitted_stepped : (out : LinkSpec) (hop : Step) (further : List Step) →
        makes_route t n w.egress (hop ∷ further) ≡ true →
        own_link (local_node t n) hop.link ≡ Some out → Steps (admitted_setup place state w out further)
    admitted_stepped out hop further made over =
        if_cases Steps (is_spent state) _ _ (λ h. refused_stepped w Spent) (λ h.
        if_cases Steps (is_full state) _ _ (λ h. refused_stepped w Full) (λ h.
        if_cases Steps (lacks_first_back place state w.both (Work w.protected) out) _ _
        (λ h. refused_stepped w (Code label_code)) (λ h.
        begins_stepped t s n o state Carries (working_lsp place state w out further) hop
        (call_record w Asking (Some (next_lsp place state)) Unset)
        (record { tunnel = state.tunnel + 1; lsp = state.lsp + 1 })
        made over refl refl (omega arith) tt refl refl tt tt
        (first_back_of_link place state w.both (Work w.protected) out) f)))

    route_stepped : (route : List Step) → makes_route t n w.egress route ≡ true → (out : Option LinkSpec) →
        first_link place route ≡ out → Steps (over_first place state w route out)
    route_stepped route made None e = stepped_nothing
    route_stepped route made (Some out) e =
        let st = starts_over place route out e in
        rw st.is (admitted_stepped out st.hop st.further (rw st.is at made) st.over)

    -- a route that is found is one of the network
    found_stepped : is_searchable t ≡ true → AreRowsOf t state.learnt → (found : Option Trip) →
        least_trip (known_rows place state) n w.egress ≡ found → Steps (over_found place state w found)
    found_stepped searchable are None e = refused_stepped w NoRoute
    found_stepped searchable are (Some r) e =
        route_stepped r.steps (found-leads t n w.egress state r searchable are e) (first_link place r.steps) refl

    via_stepped : AreRowsOf t state.learnt → (via : Option (List Step)) → (via ≡ None → is_searchable t ≡ true) →
        ((route : List Step) → via ≡ Some route → makes_route t n w.egress route ≡ true) →
        Steps (new_call place state w via)
    via_stepped are None searchable made =
        found_stepped (searchable refl) are (least_trip (known_rows place state) n w.egress) refl
    via_stepped are (Some route) searchable made = route_stepped route (made route refl) (first_link place route) refl

    pub setup_stepped : ((route : List Step) → w.via ≡ Some route → makes_route t w.from w.egress route ≡ true) →
        (w.via ≡ None → is_searchable t ≡ true) → AreRowsOf t state.learnt → (known : Option CallRec) →
        EachStepped t s n o (setup_with (local_node t n) (s.nodes n.0) w known)
    setup_stepped made searchable are (Some c) = stepped_nothing
    setup_stepped made searchable are None =
        if_cases Steps (is_order_here place w) _ _
        (λ h. via_stepped are w.via searchable
        (λ route e. subst (λ m. makes_route t m w.egress route ≡ true) (here (and-left _ _ h)) (made route e)))
        (λ h. stepped_nothing)
      where
        here : nat_eq w.from.0 n.0 ≡ true → w.from ≡ n
        here e = let is : w.from.0 ≡ n.0 = grind arith in same-node w.from n is
