-- A PathErr is taken at a node of its LSP's route: the leg there.
use Rattle.std.proofs.Common.{◌≡◌, ◌<◌, ℕ, suc, Bool, true, false, List, [], ◌∷◌, ◌++◌, refl, subst, arith, inl, inr, append-nil}
use Rattle.std.specs.Prelude.{◌⊎◌, Option, Some, None}
use Rattle.ason_base.specs.{Lsps.same_lsp, Network.Network, declared.codes.ErrCode.ErrCode, declared.ids.Lsp.Lsp, declared.ids.NodeId.NodeId, declared.calls.Phase.TheVariants.{Asked, Armed, Held}, declared.messages.Msg.Msg, declared.messages.Msg.TheVariants.PathErr, declared.tables.Leg.Leg}
use Rattle.ason_base.proofs.Numbers.{self-number}
use Rattle.mesh_rules.specs.{Changes.{Answer, nothing, puts, removes, to_node}, Legs.{is_armed, previous, with_phase}, PathErrs.PathFailure, Machine.Mesh}
use Rattle.lsp_laws.specs.{HopShapes.{AskedLeg, IsTorn, NothingLeft, leg_kind}, HopLaw.{is_message_of, messages_of, leg_at, mail_between}}
use Rattle.lsp_laws.proofs.{hops.Plans.{Plan, hops, node_at, fibre_at, IsPlanRoute}, hops.RowStates.nothing_torn, hops.AnswersTaken.{contention_to, removal_taken, asked_answers, torn_leaves}, hops.Purposes.{Purpose, purpose_role}, hops.IdleHops.no_path_down, hops.Chain.{LegFitsPlan, ChainHop, Chain}, hops.Changed.SendsAlong, hops.Sending.{sent_of_lsp, sends_none, sends_back}, hops.LegKinds.{same_of, same_phase, torn_not_armed, torn_is_closing, torn_not_asked}, hops.LegChanges.{Before, before_or_first, held_fits, previous_is, previous_none, following_is}, hops.Activation.{contention_passes, disarms}, hops.Downstream.{asked_lets_go, torn_goes}, hops.Upstream.{contention_kept, removal_leaves}, hops.InParts.{leg_contended, leg_disarmed, leg_of_err, leg_refused, leg_removed}, hops.Taken.{before-place, KeepsUp, up_hop, up_taken}}
use Rattle.mesh_nodes.proofs.LegList.{same_lsp-refl}

module _ (t : Network) (q : Purpose) (s : Mesh) (l : Lsp) (p : Plan) (i : ℕ) (route : IsPlanRoute t l.ingress p)
    (chain : Chain t q l p (leg_at s l) (mail_between s l)) (below : i < hops p)
    (e at : NodeId) (gone : Bool) (code : ErrCode) (rest : List Msg)
    (was : s.mail (node_at p (suc i)).0 (node_at p i).0 ≡ PathErr l e at gone code ∷ rest) where
  abbrev n : NodeId
  n = node_at p i

  abbrev message : Msg
  message = PathErr l e at gone code

  abbrev failure : PathFailure
  failure = record { lsp = l; msg = message; removed = gone; code = code }

  pub own : is_message_of l message ≡ true
  own = same_lsp-refl l

  abbrev Keeps : Answer → Type 0
  Keeps a = KeepsUp t q s l p i route chain below message rest was own a

  hop : ChainHop q p i (leg_at s l n) (leg_at s l (node_at p (suc i)))
      (mail_between s l n (node_at p (suc i))) (message ∷ messages_of l rest)
  hop = up_hop t q s l p i route chain below message rest was own

  module _ (removes_it : gone ≡ true) (g : Leg) (here : leg_at s l (node_at p i) ≡ Some g)
      (fits : LegFitsPlan t q l p i g) where
    mine : same_lsp g.lsp l ≡ true
    mine = same_of g.lsp l fits.own

    leaves : ChainHop q p i None (leg_at s l (node_at p (suc i))) (mail_between s l n (node_at p (suc i)) ++ [])
        (messages_of l rest)
    leaves = removal_leaves q p i _ _ _ g l e at code (rw (here, removes_it) at hop)

    -- a torn leg goes
    torn : IsTorn (purpose_role q) (leg_kind (Some g)) → Keeps (removes g.lsp [])
    torn is_torn =
        up_taken t q s l p i route chain below message rest was own (removes g.lsp []) None [] []
        (rw mine refl) (sends_none l p i) tt
        (λ k eq. torn_goes q p k _ _ _ g (before-place t q s l p i chain below g here k eq) is_torn)
        leaves
        (λ k eq _ path. let none =
        no_path_down _ (torn_leaves (purpose_role q) _ _ _ _ is_torn
        (before-place t q s l p i chain below g here k eq).shape).down_is in cc (none, path))
        refl

    first_goes : i ≡ 0 → Keeps (removes g.lsp [])
    first_goes first =
        up_taken t q s l p i route chain below message rest was own (removes g.lsp []) None [] []
        (rw mine refl) (sends_none l p i) tt
        (λ k eq. absurd (omega arith)) leaves (λ k eq. absurd (omega arith)) refl

    -- the PathErr is passed back
    passed : (j : ℕ) → g.phase ≡ Asked → suc j ≡ i → Keeps (removes g.lsp (to_node (node_at p j) message ∷ []))
    passed j asked before =
        up_taken t q s l p i route chain below message rest was own
        (removes g.lsp (to_node (node_at p j) message ∷ [])) None (message ∷ []) []
        (rw mine refl)
        (subst (λ i. SendsAlong p i (sent_of_lsp l (to_node (node_at p j) message ∷ [])) (message ∷ []) []) before
        (sends_back t l l.ingress p route j message (omega arith) own)) tt
        (λ k eq. rw removes_it
        (asked_lets_go q p k _ _ _ g
        (before-place t q s l p i chain below g here k eq) None l e at code asked NothingLeft refl))
        leaves
        (λ k eq _ path.
        let none =
        no_path_down _ (asked_answers (purpose_role q) _ _ _ (rw asked at
        (before-place t q s l p i chain below g here k eq).shape)).down_is in
        cc (none, path))
        refl

    asked_goes : g.phase ≡ Asked → Before i →
        Keeps (leg_refused g failure (previous g))
    asked_goes asked (inl first) =
        let fits' : LegFitsPlan t q l p 0 g = rw first at fits in
        rw (previous_none t q l p g fits') (first_goes first)
    asked_goes asked (inr (j, before)) =
        let fits' : LegFitsPlan t q l p (suc j) g = rw before fits in
        rw (previous_is t q l p j g fits') (passed j asked before)

    goes : (leg_kind (Some g) ≡ AskedLeg) ⊎ IsTorn (purpose_role q) (leg_kind (Some g)) →
        Keeps (leg_removed g failure)
    goes (inl asked) = let is = same_phase g.phase Asked asked in rw is (asked_goes is (before_or_first i))
    goes (inr is_torn) =
        rw (
          torn_not_asked (purpose_role q) g.phase is_torn,
          torn_is_closing (purpose_role q) g.phase is_torn,
        ) (torn is_torn)

  -- one that removes nothing comes to an Armed leg, which is Held again

  module _ (removes_none : gone ≡ false) (g : Leg) (here : leg_at s l (node_at p i) ≡ Some g)
      (fits : LegFitsPlan t q l p i g) (armed : g.phase ≡ Armed) where
    again_mine : same_lsp g.lsp l ≡ true
    again_mine = same_of g.lsp l fits.own

    again_after : ChainHop q p i (Some (with_phase Held g)) (leg_at s l (node_at p (suc i)))
        (mail_between s l n (node_at p (suc i)) ++ []) (messages_of l rest)
    again_after =
        disarms q p i g (leg_at s l (node_at p (suc i))) (PathErr l e at false code) _ _ armed refl
        (rw (here, removes_none) at hop)

    first_again : i ≡ 0 → Keeps (leg_disarmed g message None)
    first_again first =
        up_taken t q s l p i route chain below message rest was own
        (puts (with_phase Held g) []) (Some (with_phase Held g)) [] []
        (rw again_mine refl) (sends_none l p i) (held_fits t q l p i g fits armed)
        (λ k eq. absurd (omega arith)) again_after (λ k eq none. absurd cc) refl

    -- it is passed back
    again_back : (j : ℕ) → suc j ≡ i →
        Keeps (leg_disarmed g message (Some (record { node = node_at p j; fibre = fibre_at t p j })))
    again_back j before =
        up_taken t q s l p i route chain below message rest was own
        (puts (with_phase Held g) (to_node (node_at p j) message ∷ [])) (Some (with_phase Held g)) (message ∷ []) []
        (rw again_mine refl)
        (subst (λ i. SendsAlong p i (sent_of_lsp l (to_node (node_at p j) message ∷ [])) (message ∷ []) []) before
        (sends_back t l l.ingress p route j message (omega arith) own))
        (held_fits t q l p i g fits armed)
        (λ k eq. rw removes_none
        (contention_passes q p k (leg_at s l (node_at p k)) g l e at code _ _ armed
        (before-place t q s l p i chain below g here k eq)))
        again_after (λ k eq none. absurd cc) refl

    armed_test : is_armed g.phase ≡ true
    armed_test = rw armed refl

    again : Before i → Keeps (leg_contended g message)
    again (inl first) =
        let fits' : LegFitsPlan t q l p 0 g = rw first at fits in
        rw (armed_test, previous_none t q l p g fits') (first_again first)
    again (inr (j, before)) =
        let fits' : LegFitsPlan t q l p (suc j) g = rw before fits in
        rw (armed_test, previous_is t q l p j g fits') (again_back j before)

  -- or to a torn leg, which stays
  stays : gone ≡ false → (g : Leg) → leg_at s l (node_at p i) ≡ Some g → LegFitsPlan t q l p i g →
      IsTorn (purpose_role q) (leg_kind (Some g)) → Keeps nothing
  stays keeps g here fits is_torn =
      up_taken t q s l p i route chain below message rest was own nothing (Some g) [] [] here
      (sends_none l p i) fits
      (λ j eq. rw append-nil (rw here at (hop_to j eq)))
      (contention_kept q p i _ _ _ g l e at code is_torn (rw (here, keeps) at hop)) (λ j eq none. absurd cc) refl
    where
      hop_to : (j : ℕ) → suc j ≡ i →
          ChainHop q p j (leg_at s l (node_at p j)) (leg_at s l n) (mail_between s l (node_at p j) n)
          (mail_between s l n (node_at p j))
      hop_to j eq = rw (← eq) (chain.each j (omega arith))

  pub err_keeps : (b : Bool) → gone ≡ b → (o : Option Leg) → leg_at s l (node_at p i) ≡ o →
      Keeps (leg_of_err (node_at p (suc i))
      (record { lsp = l; msg = message; removed = b; code = code }) o)
  err_keeps false eq None here =
      absurd (elim (contention_to (purpose_role q) _ _ _ _ (rw (here, eq) at hop.shape))
      [ inl none ↦ cc | inr is_torn ↦ nothing_torn (purpose_role q) is_torn ])
  err_keeps false eq (Some g) here =
      let fits : LegFitsPlan t q l p i g = rw here at (chain.fits i (omega arith)) in
      elim (contention_to (purpose_role q) _ _ _ _ (rw (here, eq) at hop.shape)) [
        | inl armed ↦ (let is = same_phase g.phase Armed armed in
            let kept : Keeps (leg_contended g message) = again eq g here fits is (before_or_first i) in
            rw (following_is t q l p i g fits below, self-number (node_at p (suc i)).0) kept)
        | inr is_torn ↦ rw (
          following_is t q l p i g fits below,
          self-number (node_at p (suc i)).0,
          torn_not_armed (purpose_role q) g.phase is_torn,
        ) (stays eq g here fits is_torn)
      ]
  err_keeps true eq None here =
      absurd (elim (removal_taken (purpose_role q) _ _ _ _ (rw (here, eq) at hop.shape)).which
      [ inl none ↦ cc | inr is_torn ↦ nothing_torn (purpose_role q) is_torn ])
  err_keeps true eq (Some g) here =
      let fits : LegFitsPlan t q l p i g = rw here at (chain.fits i (omega arith)) in
      let which = (removal_taken (purpose_role q) _ _ _ _ (rw (here, eq) at hop.shape)).which in
      rw (following_is t q l p i g fits below, self-number (node_at p (suc i)).0)
      (let kept : Keeps (leg_removed g failure) = goes eq g here fits which in kept)
