-- A Path that activates a backup is taken at a node of its route.
use Rattle.std.proofs.{Common.{◌≡◌, ◌<◌, ◌≤◌, ℕ, suc, true, false, List, [], ◌∷◌, refl, sym, ◌∙◌, subst, arith, inl, inr, append-nil, drop}, lemmas.Bool.cases_lt}
use Rattle.std.specs.Prelude.{◌⊎◌, Option, Some, None}
use Rattle.ason_base.specs.{Codes.busy_code, Lsps.same_lsp, Network.Network, declared.ids.Lsp.Lsp, declared.ids.NodeId.NodeId, declared.ids.LinkId.LinkId, declared.steps.Step.Step, declared.calls.Phase.TheVariants.{Held, Armed, Live}, declared.messages.PathRole.PathRole, declared.messages.PathRole.TheVariants.Back, declared.messages.Msg.Msg, declared.messages.Msg.TheVariants.{Path, Resv, PathErr}, declared.tables.Leg.Leg}
use Rattle.ason_base.proofs.Numbers.{self-number}
use Rattle.mesh_rules.specs.{declared.neighbours.Neighbour.Neighbour, Activations.{armed_on, busy_to, resv_to}, Changes.{puts, sends, to_node}, LocalNodes.local_node, Legs.{following, is_contended, previous, with_phase}, Machine.Mesh, Messages.arrival, Paths.path_with}
use Rattle.lsp_laws.specs.{HopShapes.{NoLeg, HeldLeg, leg_kind}, HopLaw.{messages_of, leg_at, mail_between}}
use Rattle.mesh_nodes.proofs.Cases.{if_cases}
use Rattle.lsp_laws.proofs.{hops.Activation.{arms, arms_on, connects, contends}, hops.Chain.{Chain, ChainHop, LegFitsPlan}, hops.LegKinds.{held_leg, same_of}, hops.LegChanges.{armed_fits, following_is, following_none, held_live_fits, in_label_is, in_use_out, previous_is}, hops.Plans.{Plan, hops, node_at, link_at, fibre_at, IsPlanRoute}, hops.Purposes.{Purpose, purpose_role}, hops.PathTaken.active_taken, hops.Rows.leg_downstream, hops.Sending.{sends_back, sends_on}, hops.PathComes.path-comes, hops.Taken.{ahead, down_taken}}

-- the Resv that a leg sends back
pub resv-is : (g : Leg) (h : Neighbour) (y : ℕ) (o : Option Neighbour) (label : Option ℕ) → o ≡ Some h →
    label ≡ Some y → resv_to g o label ≡ to_node h.node (Resv g.lsp g.egress h.fibre.link y) ∷ []
resv-is g h y None label before is = absurd (cc before)
resv-is g h y (Some k) None before is = absurd (cc is)
resv-is g h y (Some k) (Some z) before is = let a : k ≡ h = cc before in let b : z ≡ y = cc is in rw (a, b) refl

module _ (t : Network) (q : Purpose) (s : Mesh) (l : Lsp) (p : Plan) (i : ℕ) (route : IsPlanRoute t l.ingress p)
    (chain : Chain t q l p (leg_at s l) (mail_between s l)) (below : i < hops p)
    (e : NodeId) (k : LinkId) (r : List Step) (set : List ℕ) (label : Option ℕ) (work : ℕ) (primary : List Step)
    (rest : List Msg)
    (was : s.mail (node_at p i).0 (node_at p (suc i)).0 ≡ Path l e k r set label (Back true work primary) ∷ rest)
  where
    open ahead t s p i use {u, d, next, place, state}

    abbrev role : PathRole
    role = Back true work primary

    abbrev message : Msg
    message = Path l e k r set label (Back true work primary)

    open path-comes t q s l p i route chain below e k r set label role rest was use
        {asks, own, Keeps, hop, over, left, tells}

    module _ (g : Leg) (here : leg_at s l (node_at p (suc i)) ≡ Some g) (fits : LegFitsPlan t q l p (suc i) g)
        (held : g.phase ≡ Held) where
      mine : same_lsp g.lsp l ≡ true
      mine = same_of g.lsp l fits.own

      hop_in : ChainHop q p i (leg_at s l u) (Some g) (message ∷ messages_of l rest) (mail_between s l d u)
      hop_in = rw here at hop

      hop_out : suc i < hops p → ChainHop q p (suc i) (Some g) (leg_at s l next) (mail_between s l d next)
          (mail_between s l next d)
      hop_out small = rw here at (chain.each (suc i) small)

      into : (y : ℕ) × (g.in_label ≡ Some y)
      into = in_label_is t q l p i g fits (rw held refl)

      -- it is refused
      refuses : Keeps (sends (busy_to place g u ∷ []))
      refuses =
          down_taken t q s l p i route chain below message rest was own
          (sends (busy_to place g u ∷ [])) (Some g) (PathErr g.lsp g.egress d false busy_code ∷ []) []
          here (sends_back t l l.ingress p route i (PathErr g.lsp g.egress d false busy_code) below mine)
          fits
          (contends q p i (leg_at s l u) g message (messages_of l rest) _ held refl hop_in g.lsp g.egress d busy_code)
          (λ small. rw append-nil (hop_out small))
          (λ none. absurd cc)
          (λ small gone path. chain.fresh (suc i) small (record { gone = gone; path = rw append-nil at path }))

      -- at the egress the leg is Live, and its label goes back
      ends : hops p ≤ suc i → Keeps (armed_on g (drop 1 r) role None)
      ends end =
          subst (λ outs. Keeps (puts (with_phase Live g) outs))
          (sym (resv-is g (record { node = u; fibre = fibre_at t p i }) into.0 (previous g) g.in_label
          (previous_is t q l p i g fits) into.1))
          (down_taken t q s l p i route chain below message rest was own
          (puts (with_phase Live g) (to_node u (Resv g.lsp g.egress (link_at p i) into.0) ∷ []))
          (Some (with_phase Live g)) (Resv g.lsp g.egress (link_at p i) into.0 ∷ []) []
          (rw mine refl) (sends_back t l l.ingress p route i (Resv g.lsp g.egress (link_at p i) into.0) below mine)
          (held_live_fits t q l p (suc i) g fits held)
          (connects q p i (leg_at s l u) g message (messages_of l rest) _ held refl hop_in g.lsp g.egress (link_at p i)
          into.0 refl into.1 (in_use_out t q l p i (leg_at s l u) (chain.fits i (omega arith)) below))
          (λ small. absurd (omega arith))
          (λ none. absurd cc)
          (λ small. absurd (omega arith)))

      -- elsewhere it is Armed, and the Path goes on
      goes_on : suc i < hops p →
          Keeps (armed_on g (drop 1 r) role (Some (record { node = next; fibre = fibre_at t p (suc i) })))
      goes_on small =
          let m : Msg = Path g.lsp g.egress (link_at p (suc i)) (drop 1 r) g.sent g.back_in (Back true work primary) in
          down_taken t q s l p i route chain below message rest was own
          (puts (with_phase Armed g) (to_node next m ∷ [])) (Some (with_phase Armed g)) [] (m ∷ [])
          (rw mine refl) (sends_on t l l.ingress p route (suc i) m small mine)
          (armed_fits t q l p (suc i) g fits held small)
          (rw append-nil (arms q p i (leg_at s l u) g message (messages_of l rest) _ held refl hop_in))
          (λ _. arms_on q p (suc i) g (leg_at s l next) m _ _ held refl (fits.egress, refl, left, tells) refl refl
          (λ gone. absurd (never gone)) (hop_out small))
          (λ none. absurd cc)
          (λ _ gone. absurd (never (rw gone refl)))
        where
          never : leg_kind (leg_at s l (node_at p (suc (suc i)))) ≡ NoLeg → ⊥
          never gone = leg_downstream (purpose_role q) _ _ _ _ (hop_out small).shape (rw held refl) gone

      onward : (suc i < hops p) ⊎ (hops p ≤ suc i) → Keeps (armed_on g (drop 1 r) role (following g))
      onward (inl small) = rw (following_is t q l p (suc i) g fits small) (goes_on small)
      onward (inr end) = rw (following_none t q l p (suc i) g fits end) (ends end)

      taken : Keeps (path_with place state asks (Some g))
      taken =
          rw (held, previous_is t q l p i g fits, over, self-number (node_at p i).0, self-number (link_at p i).0)
          (if_cases Keeps (is_contended state.legs g) (sends (busy_to place g u ∷ []))
          (armed_on g (drop 1 r) role (following g)) (λ c. refuses) (λ c. onward (cases_lt (suc i) (hops p))))

    is_held : leg_kind (leg_at s l d) ≡ HeldLeg
    is_held = (active_taken (purpose_role q) _ _ _ _ hop.shape).held

    pub activation_keeps : (o : Option Leg) → leg_at s l (node_at p (suc i)) ≡ o →
        Keeps (path_with (local_node t (node_at p (suc i))) (s.nodes (node_at p (suc i)).0)
        (record {
          arrival = arrival l e (node_at p i) k;
          route = r;
          set = set;
          upstream = label;
          role = Back true work primary;
        }) o)
    activation_keeps o here =
        let leg = held_leg (leg_at s l (node_at p (suc i))) is_held in
        rw (sym here ∙ leg.1) (taken leg.0 leg.1 (rw (leg.1) at (chain.fits (suc i) below)) leg.2)
