-- A first Path is taken at a node of its route.
use Rattle.std.proofs.Common.{◌≡◌, ◌≢◌, ◌<◌, ◌≤◌, ℕ, suc, true, false, nat_eq, nat_lt, List, [], ◌∷◌, length, drop, refl, sym, ap, ◌∙◌, subst, arith, append-nil}
use Rattle.std.specs.Prelude.{Option, Some, None}
use Rattle.ason_base.specs.{Labels.{has, least, up_to}, Network.{Network, other_end}, declared.calls.Phase.Phase, declared.calls.Phase.TheVariants.Asked, declared.codes.ErrCode.ErrCode, declared.ids.Fibre.Fibre, declared.ids.Lsp.Lsp, declared.ids.NodeId.NodeId, declared.ids.LinkId.LinkId, declared.steps.Step.Step, declared.messages.PathRole.PathRole, declared.risks.Risk.Risk, declared.messages.Msg.Msg, declared.messages.Msg.TheVariants.{Path, Resv, PathErr}, declared.tables.Leg.Leg}
use Rattle.mesh_rules.specs.{Changes.sends, LocalNodes.{labels_of, own_link, fibre_in, fibre_out}, KnownRows.known_rows, Legs.reserved, Paths.{back_label, is_none, is_primary_unknown, first_failure, checks, asked_leg, error_to, egress_leg, set_on, transit_leg, offered_labels, risks_here, at_egress, in_transit, admitted, judged, role_of as asked_role}, Messages.on_message, Machine.Mesh}
use Rattle.mesh_nodes.proofs.{ChosenLabels.{has-left, least-has}, LegList.same_lsp-refl, routes.Nodes.known-are}
use Rattle.lsp_laws.specs.{HopShapes.{PlainPath, path_kind, phase_kind}, HopLaw.{messages_of, leg_at, mail_between}, LabelLaw.KeepsLabels}
use Rattle.lsp_laws.proofs.{hops.Plans.{Plan, hops, node_at, link_at, fibre_at, IsPlanRoute, LinkLeads, distinct, other, lt_true, lt_false, joined, own_near, own_far, fibre_in_is, fibre_out_is}, hops.Labels.{back_label_of_link, back_label_same, left_of_link}, hops.Purposes.{Purpose, Tells, purpose_role, tells_role, has_path, plain_inactive}, hops.Risks.recorded-fit, hops.RowStates.reserved_leg, hops.Chain.{ChainHop, IsVacant, Chain, LegFitsPlan, PhaseFits, RisksFit, asked_fits, next_node_at, out_fibre_at, no_label_in, reserved_fits}, hops.Sending.{sends_back, sends_on}, hops.LegKinds.reserved_kind, hops.Downstream.{path_last, path_passed, path_answered, path_refused}, hops.Upstream.{hop_idle, hop_asks}, hops.PathComes.path-comes, hops.Taken.{ahead, down_mine, down_taken}, hops.PathLabels.{drop-further, drop-none, drop-some, primary_known, some_label}}
use Rattle.mesh_nodes.specs.Routes.{AreRowsOf}

module _ (t : Network) (q : Purpose) (s : Mesh) (l : Lsp) (p : Plan) (i : ℕ) (route : IsPlanRoute t l.ingress p)
    (chain : Chain t q l p (leg_at s l) (mail_between s l)) (below : i < hops p)
    (e : NodeId) (k : LinkId) (r : List Step) (set : List ℕ) (label : Option ℕ) (purpose : PathRole) (rest : List Msg)
    (was : s.mail (node_at p i).0 (node_at p (suc i)).0 ≡ Path l e k r set label purpose ∷ rest)
    (learnt : AreRowsOf t (s.nodes (node_at p (suc i)).0).learnt) (plain : path_kind purpose ≡ PlainPath) where
  open ahead t s p i use {u, d, next, place, state}

  abbrev message : Msg
  message = Path l e k r set label purpose

  open path-comes t q s l p i route chain below e k r set label purpose rest was use {asks, own, Keeps, hop}

  what : (e ≡ p.egress) × (k ≡ link_at p i) × (r ≡ drop (suc i) p.route) × Tells q purpose
  what = hop.rest.going_down.0

  abbrev FirstHop : Type 0
  FirstHop = ChainHop q p i (leg_at s l u) None (message ∷ messages_of l rest) (mail_between s l d u)

  far : u.0 ≢ d.0
  far = distinct t l.ingress p route i (suc i) (omega arith) (omega arith) (omega arith)

  pub over : LinkLeads t k u d
  over = rw what.1 (route.links i below)

  asked_for : asked_role purpose ≡ purpose_role q
  asked_for = tells_role q purpose what.3

  pub enters : fibre_in over.link d ≡ fibre_at t p i
  enters = go over
    where
      go : (o : LinkLeads t k u d) → fibre_in o.link d ≡ fibre_at t p i
      go o = subst (λ k. (o : LinkLeads t k u d) →
          fibre_in o.link d ≡ fibre_at t p i) (sym what.1) (fibre_in_is t p i) o

  abbrev offered : List ℕ
  offered = offered_labels place state asks over.link

  within : (y : ℕ) → has offered y ≡ true → has set y ≡ true
  within y = has-left set _ y

  -- no leg of the LSP is here, and nothing of it is beyond
  module _ (none : leg_at s l (node_at p (suc i)) ≡ None) where
    hop_here : FirstHop
    hop_here = rw none at hop

    pub last : has_path (messages_of l rest) ≡ false
    last = path_last q p i (leg_at s l u) l e k r set label purpose (messages_of l rest) _ plain hop_here

    pub beyond : (j : ℕ) → i < j → j ≤ hops p → IsVacant p (leg_at s l) (mail_between s l) j
    beyond j after small =
        chain.fresh i below (record {
          gone =
              none;
          path = rw (down_mine t q s l p i route chain below message rest was own) refl;
        })
        j after small

    refused : (code : ErrCode) → Keeps (sends (error_to u place asks.arrival code ∷ []))
    refused code =
        down_taken t q s l p i route chain below message rest was own
        (sends (error_to u place asks.arrival code ∷ [])) None (PathErr l e d true code ∷ []) []
        none (sends_back t l l.ingress p route i (PathErr l e d true code) below own) tt
        (path_refused q p i (leg_at s l u) l e k r set label purpose (messages_of l rest) _ plain
        hop_here e d code)
        (λ small. rw (
          append-nil,
          (beyond (suc i) (omega arith) (omega arith)).no_down small,
          (beyond (suc i) (omega arith) (omega arith)).no_up small,
          (beyond (suc (suc i)) (omega arith) (omega arith)).no_leg,
        )
        (hop_idle q p (suc i)))
        (λ gone path. cc (last, path))
        (λ small gone path. let never : false ≡ true =
        rw (append-nil, (beyond (suc i) (omega arith) (omega arith)).no_down small) at path in absurd cc)

    -- a Path that is admitted
    module _ (known : is_primary_unknown (known_rows place state) purpose ≡ false) where
      abbrev risks : List Risk
      risks = risks_here place state asks

      recorded_here : RisksFit t q (risks_here place state asks)
      recorded_here =
          recorded-fit t q (known_rows place state) purpose (λ searchable. known-are t d state searchable learnt) what.3
          known

      -- the leg that the Path makes, and that it fits its place as far as the rest of it does
      abbrev came : Option NodeId → Option Fibre → List ℕ → List Step → Phase → Option ℕ → Option ℕ → Leg
      came on out sent further f label back = record (asked_leg place asks over.link risks offered) {
        next = on;
        out_fibre = out;
        sent = sent;
        route = further;
        phase = f;
        in_label = label;
        back_in = back;
      }

      came_fits : (on : Option NodeId) (out : Option Fibre) (sent : List ℕ) (further : List Step) (f : Phase)
          (label back : Option ℕ) → on ≡ next_node_at p (suc i) → out ≡ out_fibre_at t p (suc i) →
          further ≡ drop (suc (suc i)) p.route → PhaseFits q f (suc i) (hops p) label None →
          KeepsLabels place (came on out sent further f label back) →
          LegFitsPlan t q l p (suc i) (came on out sent further f label back)
      came_fits on out sent further f label back leads leaves rest phase labels = record {
        own = refl;
        egress = what.0;
        role = asked_for;
        tells = what.3;
        risks = recorded_here;
        prev = refl;
        in_fibre = ap Some enters;
        next = leads;
        out_fibre = leaves;
        route = rest;
        sent = tt;
        phase = phase;
        labels = labels;
      }

      -- the leg has its label
      kind : phase_kind (reserved (asked_role purpose)) ≡ reserved_leg (purpose_role q)
      kind = ap (λ r. phase_kind (reserved r)) asked_for ∙ reserved_kind (purpose_role q)

      -- at the egress
      ends : r ≡ [] → (x : Option ℕ) → least offered ≡ x → is_none x ≡ false →
          Keeps (at_egress place asks over.link risks offered x)
      ends end None is some = absurd cc
      ends end (Some y) is some =
          let done : drop (suc i) p.route ≡ [] = sym what.2 ∙ end in
          let long : length p.route ≤ suc i = drop-none (suc i) p.route done in
          let stop : nat_lt (suc i) (hops p) ≡ false = lt_false long in
          down_taken t q s l p i route chain below message rest was own
          (at_egress place asks over.link risks offered (Some y))
          (Some (egress_leg place asks over.link risks offered y)) (Resv l e over.link.id y ∷ []) []
          (rw (same_lsp-refl l) refl) (sends_back t l l.ingress p route i (Resv l e over.link.id y) below own)
          (came_fits None None [] [] (reserved (asked_role purpose)) (Some y) None (rw stop refl) (rw stop refl)
          (drop-further (suc i) p.route done)
          (rw asked_for (reserved_fits q (suc i) (hops p) (Some y) None (y, refl) (λ small. absurd (omega arith))))
          (record {
            one = λ keeps a b enters leaves. absurd (cc leaves);
            of_link = λ f z on label.
                let fibre : fibre_in over.link d ≡ f = cc on in
                let is_y : y ≡ z = cc label in
                subst (λ f. has (up_to (labels_of (own_link place f.link))) z ≡ true) fibre
                (subst (λ z. has (up_to (labels_of (own_link place (fibre_in over.link d).link))) z ≡ true) is_y
                (left_of_link place state.legs (asked_role purpose) risks (fibre_in over.link d) set y
                (least-has offered y is)));
            one_back = λ keeps a b enters leaves. absurd (cc enters);
            back_of_link = λ f z on label. absurd (cc label);
          }))
          (path_answered q p i (leg_at s l u) l e k r set label purpose (messages_of l rest) _ plain hop_here
          (egress_leg place asks over.link risks offered y) e over.link.id y kind refl refl
          (within y (least-has offered y is)) (over.id ∙ what.1))
          (λ small. absurd (omega arith))
          (λ gone path. cc (last, path))
          (λ small. absurd (omega arith))

      -- elsewhere
      goes_on : (n : LinkLeads t (link_at p (suc i)) (node_at p (suc i)) (node_at p (suc (suc i))))
          (further : List Step) →
          suc i < hops p →
          further ≡ drop (suc (suc i)) p.route →
          Keeps (in_transit place state asks over.link further (Some n.link))
      goes_on n further small is =
          let more : nat_lt (suc i) (hops p) ≡ true = lt_true small in
          let back : Option ℕ = back_label place state asks n.link in
          let g : Leg = transit_leg place asks over.link risks n.link further offered back in
          let m : Msg = Path l e n.link.id further (set_on place n.link offered) back purpose in
          down_taken t q s l p i route chain below message rest was own
          (in_transit place state asks over.link further (Some n.link)) (Some g) [] (m ∷ [])
          (rw (same_lsp-refl l) refl)
          (rw n.far (sends_on t l l.ingress p route (suc i) m small own))
          (came_fits (Some (other_end n.link d)) (Some (fibre_out n.link d)) (set_on place n.link offered) further Asked
          None back (rw more (ap Some n.far))
          (rw more (ap Some (fibre_out_is t p (suc i)
          (distinct t l.ingress p route (suc i) (suc (suc i)) (omega arith) (omega arith) (omega arith)) n)))
          is (asked_fits q (suc i) (hops p) small)
          (no_label_in place g refl (back_label_same place state asks n.link)
          (back_label_of_link place state asks n.link)))
          (path_passed q p i (leg_at s l u) l e k r set label purpose (messages_of l rest) _ plain
          hop_here g refl refl within)
          (λ _. rw (
            (beyond (suc i) (omega arith) (omega arith)).no_down small,
            (beyond (suc i) (omega arith) (omega arith)).no_up small,
            (beyond (suc (suc i)) (omega arith) (omega arith)).no_leg,
          )
          (hop_asks q p (suc i) g l e n.link.id further (set_on place n.link offered) back purpose
          plain refl refl refl refl (what.0, n.id, is, what.3)))
          (λ gone path. cc (last, path))
          (λ _ gone path j after small'. beyond j (omega arith) small')

      admits : (r' : List Step) → r ≡ r' → is_none (least offered) ≡ false →
          Keeps (admitted place state asks over.link r')
      admits [] end some = ends end (least offered) refl some
      admits (hop ∷ further) is some =
          let st = drop-some (suc i) p.route hop further (sym what.2 ∙ is) in
          let first : hop.link ≡ link_at p (suc i) = rw st.first refl in
          let n = route.links (suc i) st.below in
          rw (first, own_near t (link_at p (suc i)) (node_at p (suc i)) (node_at p (suc (suc i))) n)
          (goes_on n further st.below st.further)

    judges : (o : Option ErrCode) → first_failure (checks place state asks over.link) ≡ o →
        Keeps (judged place state asks over.link o)
    judges (Some code) is = refused code
    judges None is =
        admits (primary_known place state asks over.link is) r refl (some_label place state asks over.link is)

  away : nat_eq l.ingress.0 (node_at p (suc i)).0 ≡ false
  away = rw (← route.first) (other (node_at p 0).0 (node_at p (suc i)).0
      (distinct t l.ingress p route 0 (suc i) (omega arith) (omega arith) (omega arith)))

  pub path_keeps : leg_at s l (node_at p (suc i)) ≡ None → Keeps (on_message place state u message)
  path_keeps none =
      rw (none, own_far t k u d far over, plain_inactive purpose plain, (joined t k u d far over).leads, away)
      (judges none (first_failure (checks place state asks over.link)) refl)
