-- A Resv is taken at a node of its LSP's route: the leg there.
use Rattle.std.proofs.Common.{◌≡◌, ◌<◌, ℕ, suc, true, false, List, [], ◌∷◌, ◌++◌, refl, sym, ap, ◌∙◌, subst, arith, inl, inr, append-nil}
use Rattle.std.specs.Prelude.{Option, Some, None}
use Rattle.ason_base.specs.{Codes.label_code, Labels.{has, meet, up_to}, Lsps.same_lsp, Network.Network, declared.ids.Lsp.Lsp, declared.ids.NodeId.NodeId, declared.ids.LinkId.LinkId, declared.calls.Phase.TheVariants.{Asked, Armed, Live}, declared.calls.Role.Role, declared.messages.Msg.Msg, declared.messages.Msg.TheVariants.{Resv, PathTear, PathErr}, declared.tables.Leg.Leg}
use Rattle.ason_base.proofs.Numbers.{self-number}
use Rattle.mesh_rules.specs.{declared.arrivals.Arrival.Arrival, declared.neighbours.Neighbour.Neighbour, State.NodeState, ActivationAnswers.is_confirmed, Changes.{Answer, nothing, puts, to_node}, LocalNodes.{LocalNode, labels_of, local_node, own_link}, Legs.{closed, connected, following, is_over, label_through, previous, usable, with_phase}, Resvs.{is_expected, passed_back}, Messages.arrival, Machine.Mesh}
use Rattle.mesh_nodes.proofs.{ChosenLabels.{has-left, through-has}, LegList.same_lsp-refl}
use Rattle.lsp_laws.specs.{HopShapes.{LegKind, NoLeg, IsTorn, StillWaits, leg_kind}, HopLaw.{is_message_of, messages_of, leg_at, mail_between}}
use Rattle.lsp_laws.proofs.{hops.Plans.{Plan, hops, node_at, link_at, fibre_at, IsPlanRoute}, hops.Labels.{back_same, left_of_link}, hops.RowStates.{nothing_torn, reserved_leg}, hops.AnswersTaken.{TakesResv, ByAsked, ByArmed, ByTorn, takes_resv, resv_armed}, hops.Purposes.{Purpose, LabelsMeet, in_label_of, purpose_role}, hops.Chain.{LegFitsPlan, ChainHop, Chain, in_fibre_at, no_label_in}, hops.Changed.SendsAlong, hops.Sending.{sent_of_lsp, sends_none, sends_back, sends_on_back}, hops.LegKinds.{same_of, same_phase, torn_not_armed, torn_not_asked}, hops.LegChanges.{Before, before_or_first, in_label_is, in_use_out, live_fits, closed_torn, closed_fits, connected_fits, connected_kind, previous_is, previous_none, following_is}, hops.Activation.{goes_live, live_answers}, hops.ActivationRule.resv-is, hops.Downstream.{asked_reserved, asked_lets_go}, hops.Upstream.{resv_connects, resv_closes, resv_kept, resv_sent}, hops.InParts.{leg_answers, leg_confirmed, leg_of_resv}, hops.Taken.{before-place, KeepsUp, up_hop, up_taken}}

module _ (t : Network) (q : Purpose) (s : Mesh) (l : Lsp) (p : Plan) (i : ℕ) (route : IsPlanRoute t l.ingress p)
    (chain : Chain t q l p (leg_at s l) (mail_between s l)) (below : i < hops p)
    (e : NodeId) (k : LinkId) (x : ℕ) (rest : List Msg)
    (was : s.mail (node_at p (suc i)).0 (node_at p i).0 ≡ Resv l e k x ∷ rest) where
  abbrev n : NodeId
  n = node_at p i

  abbrev far : NodeId
  far = node_at p (suc i)

  abbrev came : Arrival
  came = arrival l e far k

  abbrev place : LocalNode
  place = local_node t n

  abbrev state : NodeState
  state = s.nodes n.0

  pub own : is_message_of l (Resv l e k x) ≡ true
  own = same_lsp-refl l

  abbrev Keeps : Answer → Type 0
  Keeps a = KeepsUp t q s l p i route chain below (Resv l e k x) rest was own a

  hop : ChainHop q p i (leg_at s l n) (leg_at s l far) (mail_between s l n far) (Resv l e k x ∷ messages_of l rest)
  hop = up_hop t q s l p i route chain below (Resv l e k x) rest was own

  over : k ≡ link_at p i
  over = hop.rest.going_up.0

  module _ (g : Leg) (here : leg_at s l (node_at p i) ≡ Some g) (fits : LegFitsPlan t q l p i g) where
    mine : same_lsp g.lsp l ≡ true
    mine = same_of g.lsp l fits.own

    -- it comes from the next node, over the link to it
    from_next : is_over (following g) (node_at p (suc i)) k ≡ true
    from_next =
        rw (following_is t q l p i g fits below, self-number (node_at p (suc i)).0, over, self-number (link_at p i).0) refl

    kind : (label : Option ℕ) → leg_kind (Some (connected g label x)) ≡ reserved_leg (purpose_role q)
    kind label = connected_kind t q l p i g label x fits

    hop_of : ChainHop q p i (Some g) (leg_at s l far) (mail_between s l n far) (Resv l e k x ∷ messages_of l rest)
    hop_of = rw here at hop

    -- a torn leg changes nothing
    kept : IsTorn (purpose_role q) (leg_kind (Some g)) → Keeps nothing
    kept torn =
        up_taken t q s l p i route chain below (Resv l e k x) rest was own nothing (Some g) [] [] here
        (sends_none l p i) fits
        (λ j eq. rw append-nil (before-place t q s l p i chain below g here j eq))
        (resv_kept q p i _ _ _ g l e k x torn hop_of) (λ j eq gone. absurd cc) refl

    module _ (asked : g.phase ≡ Asked) where
      -- at the ingress
      first_connects : i ≡ 0 → Keeps (puts (connected g None x) [])
      first_connects first =
          up_taken t q s l p i route chain below (Resv l e k x) rest was own
          (puts (connected g None x) []) (Some (connected g None x)) [] []
          (rw mine refl) (sends_none l p i) (connected_fits t q l p i g None x fits (rw first refl)
          (resv_sent q p i _ _ _ g l e k x asked hop_of)
          (no_label_in place (connected g None x) refl fits.labels.one_back fits.labels.back_of_link))
          (λ j eq. absurd (omega arith))
          (resv_connects q p i _ _ _ g l e k x asked hop_of (connected g None x)
          (kind None) refl refl refl)
          (λ j eq gone. absurd cc) refl

      -- elsewhere: no label is left, or one goes back
      closes : (j : ℕ) → suc j ≡ i →
          Keeps (passed_back place came g (record { node = node_at p j; fibre = fibre_at t p j }) x None)
      closes j before =
          let err : Msg = PathErr g.lsp g.egress n true label_code in
          let tear : Msg = PathTear g.lsp g.egress k in
          up_taken t q s l p i route chain below (Resv l e k x) rest was own
          (passed_back place came g (record { node = node_at p j; fibre = fibre_at t p j }) x None)
          (Some (closed g)) (err ∷ []) (tear ∷ [])
          (rw mine refl)
          (subst (λ m. SendsAlong p m (sent_of_lsp l (to_node (node_at p (suc m)) tear ∷ to_node (node_at p j) err ∷ []))
          (err ∷ []) (tear ∷ [])) before
          (sends_on_back t l l.ingress p route j tear err (omega arith) mine mine))
          (closed_fits t q l p i g fits below)
          (λ m eq. asked_lets_go q p m _ _ _ g
          (before-place t q s l p i chain below g here m eq) (Some (closed g)) g.lsp g.egress n label_code asked
          (StillWaits (closed_torn t q l p i g fits)) refl)
          (resv_closes q p i _ _ _ g l e k x asked hop_of (closed g) g.lsp g.egress k (rw asked refl) refl refl refl
          over)
          (λ m eq gone. absurd cc) refl

      reserves : (j y : ℕ) → suc j ≡ i → has g.offered y ≡ true → (place.convert ≡ false → y ≡ x) →
          has (up_to (labels_of (own_link place (fibre_at t p j).link))) y ≡ true →
          Keeps (passed_back place came g (record { node = node_at p j; fibre = fibre_at t p j }) x (Some y))
      reserves j y before offered one of_link =
          let resv : Msg = Resv g.lsp g.egress (link_at p j) y in
          up_taken t q s l p i route chain below (Resv l e k x) rest was own
          (passed_back place came g (record { node = node_at p j; fibre = fibre_at t p j }) x (Some y))
          (Some (connected g (Some y) x)) (resv ∷ []) []
          (rw mine refl)
          (subst (λ m. SendsAlong p m (sent_of_lsp l (to_node (node_at p j) resv ∷ [])) (resv ∷ []) []) before
          (sends_back t l l.ingress p route j resv (omega arith) mine))
          (connected_fits t q l p i g (Some y) x fits (rw (← before) (y, refl))
          (resv_sent q p i _ _ _ g l e k x asked hop_of) (record {
            one = λ keeps a b enters leaves.
                let in_is : y ≡ a = cc enters in let out_is : x ≡ b = cc leaves in sym in_is ∙ one keeps ∙ out_is;
            of_link = λ f z on label.
                let fibre : Some (fibre_at t p j) ≡ Some f =
                ap (in_fibre_at t p) before ∙ sym fits.in_fibre ∙ on in
                let there : fibre_at t p j ≡ f = cc fibre in
                let is_y : y ≡ z = cc label in
                subst (λ f. has (up_to (labels_of (own_link place f.link))) z ≡ true) there
                (subst (λ z. has (up_to (labels_of (own_link place (fibre_at t p j).link))) z ≡ true) is_y of_link);
            one_back = fits.labels.one_back;
            back_of_link = fits.labels.back_of_link;
          }))
          (λ m eq. let at_j : m ≡ j = omega arith in
          asked_reserved q p m _ _ _ g
          (before-place t q s l p i chain below g here m eq) (connected g (Some y) x) g.lsp g.egress (link_at p j) y
          asked (kind (Some y)) refl refl offered (rw at_j refl))
          (resv_connects q p i _ _ _ g l e k x asked hop_of (connected g (Some y) x)
          (kind (Some y)) refl refl refl)
          (λ m eq gone. absurd cc) refl

      goes_back : (j : ℕ) → suc j ≡ i → (o : Option ℕ) →
          ((y : ℕ) → o ≡ Some y → (has g.offered y ≡ true) × (place.convert ≡ false → y ≡ x) ×
          (has (up_to (labels_of (own_link place (fibre_at t p j).link))) y ≡ true)) →
          Keeps (passed_back place came g (record { node = node_at p j; fibre = fibre_at t p j }) x o)
      goes_back j before None good = closes j before
      goes_back j before (Some y) good =
          let is = good y refl in reserves j y before is.0 is.1 is.2

      answers : Before i → Keeps (leg_answers place state came x g (previous g))
      answers (inl first) =
          let fits' : LegFitsPlan t q l p 0 g = rw first at fits in
          rw (previous_none t q l p g fits') (first_connects first)
      answers (inr (j, before)) =
          let fits' : LegFitsPlan t q l p (suc j) g = rw before fits in
          let labels : List ℕ = meet g.offered (usable place state.legs g.role g.risks (fibre_at t p j)) in
          rw (previous_is t q l p j g fits')
          (goes_back j before (label_through place labels x)
          (λ y q.
          let back = through-has place labels x y q in (
            has-left g.offered (usable place state.legs g.role g.risks (fibre_at t p j)) y back,
            (λ keeps. back_same place labels x y keeps q),
            left_of_link place state.legs g.role g.risks (fibre_at t p j) g.offered y back,
          )))

      taken : Keeps (leg_of_resv place state came x (Some g))
      taken =
          let sent : has g.sent x ≡ true = resv_sent q p i _ _ _ g l e k x asked hop_of in
          let test : is_expected came x g ≡ true = rw (asked, from_next) sent in
          rw test (answers (before_or_first i))

    -- an Armed leg is Live

    module _ (armed : g.phase ≡ Armed) where
      far_has :
          ChainHop q p i (Some (with_phase Live g)) (leg_at s l far) (mail_between s l n far ++ []) (messages_of l rest)
      far_has = goes_live q p i g (leg_at s l far) (Resv l e k x) _ _ armed refl hop_of

      -- at the ingress
      first_confirmed : i ≡ 0 → Keeps (leg_confirmed g None)
      first_confirmed first =
          up_taken t q s l p i route chain below (Resv l e k x) rest was own
          (puts (with_phase Live g) []) (Some (with_phase Live g)) [] []
          (rw mine refl) (sends_none l p i) (live_fits t q l p i g fits armed)
          (λ j eq. absurd (omega arith)) far_has (λ j eq gone. absurd cc) refl

      -- elsewhere its label goes back
      confirmed_back : (j : ℕ) → suc j ≡ i → LegFitsPlan t q l p (suc j) g →
          Keeps (leg_confirmed g (Some (record { node = node_at p j; fibre = fibre_at t p j })))
      confirmed_back j before fits' =
          let into = in_label_is t q l p j g fits' (rw armed refl) in
          let resv : Msg = Resv g.lsp g.egress (link_at p j) into.0 in
          let before_it : Neighbour = record { node = node_at p j; fibre = fibre_at t p j } in
          subst (λ outs. Keeps (puts (with_phase Live g) outs))
          (sym (resv-is g before_it into.0 (Some before_it) g.in_label refl into.1))
          (up_taken t q s l p i route chain below (Resv l e k x) rest was own
          (puts (with_phase Live g) (to_node (node_at p j) resv ∷ [])) (Some (with_phase Live g)) (resv ∷ []) []
          (rw mine refl)
          (subst (λ m. SendsAlong p m (sent_of_lsp l (to_node (node_at p j) resv ∷ [])) (resv ∷ []) []) before
          (sends_back t l l.ingress p route j resv (omega arith) mine))
          (live_fits t q l p i g fits armed)
          (λ m eq. let at_j : m ≡ j = omega arith in
          live_answers q p m (leg_at s l (node_at p m)) g g.lsp g.egress (link_at p j) into.0 _ _ armed (rw at_j refl)
          into.1 (in_use_out t q l p m (leg_at s l (node_at p m)) (chain.fits m (omega arith)) (omega arith))
          (before-place t q s l p i chain below g here m eq))
          far_has (λ m eq gone. absurd cc) refl)

      confirmed_at : Before i → Keeps (leg_confirmed g (previous g))
      confirmed_at (inl first) =
          let fits' : LegFitsPlan t q l p 0 g = rw first at fits in
          rw (previous_none t q l p g fits') (first_confirmed first)
      confirmed_at (inr (j, before)) =
          let fits' : LegFitsPlan t q l p (suc j) g = rw before fits in
          rw (previous_is t q l p j g fits') (confirmed_back j before fits')

      -- the label is its label out
      its_label : g.out_label ≡ Some x
      its_label =
          let out = in_use_out t q l p i (Some g) fits below (inl (rw armed refl)) in
          let live = resv_armed (purpose_role q) _ _ _ (rw armed at hop_of.shape) in
          let there : in_label_of (leg_at s l far) ≡ Some x = (hop_of.rest.answers.0 (rw (live.live) refl)).0 in
          let meets : LabelsMeet g.out_label (in_label_of (leg_at s l far)) = hop_of.rest.labels in
          let one : out.0 ≡ x = rw (out.1, there) at meets in
          out.1 ∙ ap Some one

      confirms : Keeps (leg_of_resv place state came x (Some g))
      confirms =
          let waits : is_expected came x g ≡ false = rw armed refl in
          let test : is_confirmed came x g ≡ true = rw (armed, from_next, its_label) (self-number x) in
          rw (waits, test) (confirmed_at (before_or_first i))

    by_kind : (r : Role) (k : LegKind) → purpose_role q ≡ r → leg_kind (Some g) ≡ k → TakesResv r k →
        Keeps (leg_of_resv place state came x (Some g))
    by_kind _ _ role is ByAsked = taken (same_phase g.phase Asked is)
    by_kind _ _ role is ByArmed = confirms (same_phase g.phase Armed is)
    by_kind r k role is (ByTorn torn) =
        let torn' : IsTorn (purpose_role q) (leg_kind (Some g)) = rw (role, is) torn in
        rw (torn_not_asked (purpose_role q) g.phase torn', torn_not_armed (purpose_role q) g.phase torn') (kept torn')

  pub resv_keeps : (o : Option Leg) → leg_at s l (node_at p i) ≡ o →
      Keeps (leg_of_resv (local_node t (node_at p i)) (s.nodes (node_at p i).0) (arrival l e (node_at p (suc i)) k) x o)
  resv_keeps None here = absurd (no_leg (purpose_role q) (takes_resv (purpose_role q) _ _ _ _ (rw here at hop.shape)))
    where
      no_leg : (r : Role) → TakesResv r NoLeg → ⊥
      no_leg r (ByTorn torn) = nothing_torn r torn
  resv_keeps (Some g) here =
      by_kind g here (rw here at (chain.fits i (omega arith))) (purpose_role q) (leg_kind (Some g)) refl refl
      (takes_resv (purpose_role q) _ _ _ _ (rw here at hop.shape))
