-- A removal leaves no leg of its LSP; and what a message brings goes back over the link that it came by.
use Rattle.std.proofs.{Common.{◌≡◌, ◌≢◌, ◌<◌, ℕ, suc, Bool, true, false, cond, not, List, [], ◌∷◌, refl, sym, ap, ◌∙◌, arith, inl, inr}, lemmas.Option.same_Some}
use Rattle.std.specs.Prelude.{◌⊎◌, map, Option, Some, None}
use Rattle.ason_base.specs.{Network.{Network, receiver_of, sender_of}, Lsps.same_lsp, declared.calls.Phase.Phase, declared.calls.Phase.TheVariants.Asked, declared.codes.ErrCode.ErrCode, declared.ids.Fibre.Fibre, declared.ids.Lsp.Lsp, declared.ids.NodeId.NodeId, declared.messages.Msg.Msg, declared.messages.Msg.TheVariants.PathErr, declared.tables.Leg.Leg}
use Rattle.ason_base.proofs.Numbers.{self-number}
use Rattle.mesh_rules.specs.{declared.changes.LegChange.TheVariants.Goes, declared.neighbours.Neighbour.Neighbour, Calls.call_with, Changes.Answer, Legs.{find_leg, following, is_asked, is_closing, is_node, legs_changed, previous, reverse, without_leg}, LocalNodes.LocalNode, Messages.on_message, PathErrs.{PathFailure, err_passed, removed}, State.NodeState}
use Rattle.mesh_nodes.proofs.LegList.{find-without_leg, found-lsp, same_lsp-refl}
use Rattle.lsp_laws.specs.HopShapes.{AskedLeg, NoLeg, IsTorn, StillWaits, leg_kind, msg_kind, phase_kind}
use Rattle.lsp_laws.proofs.{hops.Plans.{Plan, IsPlanRoute, distinct, fibre_at, hops, lt_true, node_at}, hops.AnswersTaken.{RemovalTaken, removal_taken}, hops.RowStates.nothing_torn, hops.WayBack.kind_torn, hops.Purposes.{DownFits, HasUpstream, Purpose, UpFits, purpose_role}, hops.Chain.{Chain, HopAt, LegFitsPlan}}
use Rattle.mesh_laws.specs.HeardLaw.{brings}
use Rattle.mesh_laws.proofs.{sent.Ends.{receiver-at, receiver-back, sender-at, sender-back}, sent.Takes.{down-link, up-link}, decided.Refused.refused-legs}

-- A removal

gone : (l : Lsp) (legs : List Leg) → find_leg l (without_leg l legs) ≡ None
gone l legs = find-without_leg l legs l ∙ go (same_lsp l l) (same_lsp-refl l)
  where
    go : (b : Bool) → b ≡ true → cond b None (find_leg l legs) ≡ None
    go true e = refl
    go false e = absurd (cc e)

-- just this leg goes
record Removes (l : Lsp) (a : Answer) : Type 0 where
  legs : a.legs ≡ Goes l ∷ []

passed-removes : (s : NodeState) (g : Leg) (e : PathFailure) (o : Option Neighbour) → Removes g.lsp (err_passed s g e o)
passed-removes s g e None = record { legs = ap (λ cs. Goes g.lsp ∷ cs) (refused-legs e.code g (call_with g.lsp s.calls)) }
passed-removes s g e (Some h) = record { legs = refl }

removed-removes : (s : NodeState) (g : Leg) (e : PathFailure) →
    (is_asked g.phase ≡ true) ⊎ (is_closing g.phase ≡ true) → Removes g.lsp (removed s g e)
removed-removes s g e why = go (is_asked g.phase) (is_closing g.phase) refl refl why
  where
    go : (a c : Bool) → is_asked g.phase ≡ a → is_closing g.phase ≡ c → (a ≡ true) ⊎ (c ≡ true) →
        Removes g.lsp (removed s g e)
    go true c f h why = rw f (passed-removes s g e (previous g))
    go false true f h why = rw (f, h) (record { legs = refl })
    go false false f h (inl no_asked) = absurd (cc no_asked)
    go false false f h (inr no_torn) = absurd (cc no_torn)

err-removes : (s : NodeState) (u : NodeId) (l : Lsp) (e : NodeId) (at : NodeId) (code : ErrCode) (g : Leg)
    (p : LocalNode) →
    find_leg l s.legs ≡ Some g → is_node (following g) u ≡ true →
    (is_asked g.phase ≡ true) ⊎ (is_closing g.phase ≡ true) →
    find_leg l (legs_changed (on_message p s u (PathErr l e at true code)).legs s.legs) ≡ None
err-removes s u l e at code g p found from why =
    let failure : PathFailure = record { lsp = l; msg = PathErr l e at true code; removed = true; code = code } in
    let just : Removes g.lsp (removed s g failure) = removed-removes s g failure why in
    let mine : g.lsp ≡ l = found-lsp l s.legs g found in
    rw (found, from, just.legs, mine) (gone l s.legs)

asked-is : (f : Phase) → phase_kind f ≡ AskedLeg → is_asked f ≡ true
asked-is Asked e = refl
asked-is _ e = absurd (cc e)

-- a fibre of the same link is this one or its reverse
one-of-two : (f g : Fibre) → f.link.0 ≡ g.link.0 → (f ≡ g) ⊎ (f ≡ reverse g)
one-of-two f g link = go f.forward g.forward refl refl
  where
    links : f.link ≡ g.link
    links = λ i. record { 0 = link i }

    go : (a b : Bool) → f.forward ≡ a → g.forward ≡ b → (f ≡ g) ⊎ (f ≡ reverse g)
    go true true e h = inl (λ i. record { link = links i; forward = (e ∙ sym h) i })
    go false false e h = inl (λ i. record { link = links i; forward = (e ∙ sym h) i })
    go true false e h = inr (λ i. record { link = links i; forward = (e ∙ sym (ap not h)) i })
    go false true e h = inr (λ i. record { link = links i; forward = (e ∙ sym (ap not h)) i })

module _ (t : Network) (q : Purpose) (l : Lsp) (p : Plan) (from : NodeId) (route : IsPlanRoute t from p)
    (leg : NodeId → Option Leg) (mail : NodeId → NodeId → List Msg) (chain : Chain t q l p leg mail)
    (i : ℕ) (small : i < hops p) where
  apart : (node_at p i).0 ≢ (node_at p (suc i)).0
  apart = distinct t from p route i (suc i) (omega arith) (omega arith) (omega arith)

  -- a removal that comes up to place i leaves no leg of its LSP there
  pub removal-goes : (e at : NodeId) (code : ErrCode) (rest : List Msg) (s : NodeState) (here : LocalNode) →
      mail (node_at p (suc i)) (node_at p i) ≡ PathErr l e at true code ∷ rest → leg (node_at p i) ≡ find_leg l s.legs →
      find_leg l (legs_changed (on_message here s (node_at p (suc i)) (PathErr l e at true code)).legs s.legs) ≡ None
  removal-goes e at code rest s here first view = go (leg (node_at p i)) refl (taken.which)
    where
      hop : HopAt q p leg mail i
      hop = chain.each i small

      taken : RemovalTaken (purpose_role q) (leg_kind (leg (node_at p i))) (leg_kind (leg (node_at p (suc i))))
          (map msg_kind (mail (node_at p i) (node_at p (suc i)))) (map msg_kind rest)
      taken = removal_taken (purpose_role q) _ _ _ (map msg_kind rest) (rw first at hop.shape)

      go : (o : Option Leg) → leg (node_at p i) ≡ o →
          (leg_kind (leg (node_at p i)) ≡ AskedLeg) ⊎ IsTorn (purpose_role q) (leg_kind (leg (node_at p i))) →
          find_leg l (legs_changed (on_message here s (node_at p (suc i)) (PathErr l e at true code)).legs s.legs) ≡
          None
      go None is (inl asked) = absurd (let kind : NoLeg ≡ AskedLeg = rw is at asked in cc kind)
      go None is (inr torn) = absurd (nothing_torn (purpose_role q) (rw is at torn))
      go (Some g) is which =
          let fits : LegFitsPlan t q l p i g = rw is at (chain.fits i (omega arith)) in
          let found : find_leg l s.legs ≡ Some g = sym view ∙ is in
          let next : following g ≡ Some (record { node = node_at p (suc i); fibre = fibre_at t p i }) =
          rw (fits.next, fits.out_fibre, lt_true small) refl in
          let to_here : is_node (following g) (node_at p (suc i)) ≡ true = rw next (self-number (node_at p (suc i)).0) in
          err-removes s (node_at p (suc i)) l e at code g here found to_here (phase which)
        where
          phase : (leg_kind (leg (node_at p i)) ≡ AskedLeg) ⊎ IsTorn (purpose_role q) (leg_kind (leg (node_at p i))) →
              (is_asked g.phase ≡ true) ⊎ (is_closing g.phase ≡ true)
          phase (inl asked) = inl (asked-is g.phase (rw is at asked))
          phase (inr torn) = inr (kind_torn (purpose_role q) g.phase (StillWaits (rw is at torn)))

  -- what a message that came up to place i brings is of the fibre on
  pub up-over : (f : Fibre) (x : ℕ) (m : Msg) → UpFits p i m → brings f x m ≡ true →
      sender_of t f ≡ Some (node_at p i) → receiver_of t f ≡ Some (node_at p (suc i))
  up-over f x m fits h sends = go (one-of-two f (fibre_at t p i) (up-link p i f x m fits h))
    where
      go : (f ≡ fibre_at t p i) ⊎ (f ≡ reverse (fibre_at t p i)) → receiver_of t f ≡ Some (node_at p (suc i))
      go (inl is) = ap (receiver_of t) is ∙ receiver-at t p i apart (route.links i small)
      go (inr is) =
          let there : sender_of t f ≡ Some (node_at p (suc i)) =
          ap (sender_of t) is ∙ sender-back t p i apart (route.links i small) in
          absurd (apart (ap (λ n. n.0) (same_Some _ _ (sym sends ∙ there))))

  -- and down to the place after it, of the fibre back
  pub down-over : (f : Fibre) (x : ℕ) (b : Option ℕ) (m : Msg) → DownFits q p i m → HasUpstream b m →
      brings f x m ≡ true → sender_of t f ≡ Some (node_at p (suc i)) → receiver_of t f ≡ Some (node_at p i)
  down-over f x b m fits label h sends =
      go (one-of-two f (fibre_at t p i) (down-link q p i f x b m fits label h))
    where
      go : (f ≡ fibre_at t p i) ⊎ (f ≡ reverse (fibre_at t p i)) → receiver_of t f ≡ Some (node_at p i)
      go (inr is) = ap (receiver_of t) is ∙ receiver-back t p i apart (route.links i small)
      go (inl is) =
          let here : sender_of t f ≡ Some (node_at p i) =
          ap (sender_of t) is ∙ sender-at t p i apart (route.links i small) in
          absurd (apart (ap (λ n. n.0) (same_Some _ _ (sym here ∙ sends))))
