-- The legs of an LSP at the two ends of a hop, where its phases go all along its route: the labels between them, there and
-- back.
use Rattle.std.proofs.{Common.{◌≡◌, ◌<◌, ◌≤◌, ℕ, zero, suc, true, refl, sym, ap, ◌∙◌, subst, arith, inl, inr, Bool}, Math.Bool.and-true}
use Rattle.std.specs.Prelude.{Some, is_some, ◌&&◌}
use Rattle.ason_base.specs.{Network.Network, declared.ids.Lsp.Lsp, declared.ids.NodeId.NodeId, declared.calls.Phase.Phase, declared.tables.Leg.Leg}
use Rattle.mesh_rules.specs.{Legs.is_beyond_asked, Machine.Mesh}
use Rattle.lsp_laws.specs.{HopLaw.{leg_at, mail_between}, HopShapes.{HeldLeg, LiveLeg, leg_kind}, JoinedLaw.{HasItsLabel, IsHeldOrLive, IsLive}, LabelLaw.{BackLabelsFit, HasBackLabels}}
use Rattle.lsp_laws.proofs.{hops.Plans.{Plan, hops, node_at, lt_true}, hops.Rows.{held_upstream, live_upstream, reserved_upstream}, hops.Purposes.{Purpose, LabelsMeet, purpose_role, BackMeets}, hops.Chain.{LegFitsPlan, ChainHop, Chain}, hops.LegKinds.{beyond_reserved, held_leg, live_leg, reserved_there}, hops.LegChanges.beyond_labels, nodes.BackLabels.beyond-stands}

-- there is a leg in such a phase
abbrev pub InPhase : Mesh → Lsp → (Phase → Type 0) → NodeId → Type 0
InPhase s l P n = (g : Leg) × (leg_at s l n ≡ Some g) × P g.phase

-- the legs at two neighbours, which are in such phases, with the label between them, and that for the way back
pub record JoinedLegs (s : Mesh) (l : Lsp) (P : Phase → Type 0) (two_way : Bool) (u d : NodeId) : Type 0 where
  pub from : Leg
  pub to : Leg
  pub from_there : leg_at s l u ≡ Some from
  pub to_there : leg_at s l d ≡ Some to
  pub from_phase : P from.phase
  pub to_phase : P to.phase
  pub label : ℕ
  pub leaves : from.out_label ≡ Some label
  pub enters : to.in_label ≡ Some label
  pub back : to.back_out ≡ from.back_in
  pub both_ways : is_some from.back_in ≡ two_way

-- Phases that go all along a route: where the upstream leg of a hop is in one, so is the downstream one. A leg in one
-- is beyond Asked, so it has its labels.
pub record GoesAlong (t : Network) (s : Mesh) (q : Purpose) (l : Lsp) (p : Plan) (P : Phase → Type 0) : Type 0 where
  pub next : (i : ℕ) → i < hops p → InPhase s l P (node_at p i) → InPhase s l P (node_at p (suc i))
  pub beyond : (f : Phase) → P f → is_beyond_asked f ≡ true

module _ (t : Network) (s : Mesh) (q : Purpose) (l : Lsp) (p : Plan)
    (chain : Chain t q l p (leg_at s l) (mail_between s l)) where
  hop_from : (i : ℕ) (g : Leg) → i < hops p → leg_at s l (node_at p i) ≡ Some g → ChainHop q p i (Some g)
      (leg_at s l (node_at p (suc i))) (mail_between s l (node_at p i) (node_at p (suc i)))
      (mail_between s l (node_at p (suc i)) (node_at p i))
  hop_from i g below here = rw here at (chain.each i below)

  module _ (P : Phase → Type 0) (along : GoesAlong t s q l p P) where
    -- an LSP that is in such a phase at its ingress is so all along
    pub all_in_phase : InPhase s l P (node_at p 0) → (i : ℕ) → i ≤ hops p → InPhase s l P (node_at p i)
    all_in_phase first zero small = first
    all_in_phase first (suc i) small = along.next i (omega arith) (all_in_phase first i (omega arith))

    module _ (backs : (n : NodeId) (g : Leg) → leg_at s l n ≡ Some g → HasBackLabels g) (two_way : Bool) where
      -- the next leg goes back with the label that this one takes
      comes_back : (i : ℕ) (g h : Leg) → i < hops p → leg_at s l (node_at p i) ≡ Some g →
          leg_at s l (node_at p (suc i)) ≡ Some h → P h.phase → h.back_out ≡ g.back_in
      comes_back i g h below here there in_phase =
          let meets : BackMeets (Some g) (Some h) = rw there at (hop_from i g below here).rest.back in
          meets (beyond-stands h.phase (along.beyond h.phase in_phase))

      -- it takes one where the LSP is two-way
      pub takes_back : (i : ℕ) (g : Leg) → i < hops p → leg_at s l (node_at p i) ≡ Some g → BackLabelsFit two_way g →
          is_some g.back_in ≡ two_way
      takes_back i g below here fit =
          let near : LegFitsPlan t q l p i g = rw here at (chain.fits i (omega arith)) in
          let leaves : is_some g.out_fibre ≡ true = ap is_some near.out_fibre ∙ rw (lt_true below) refl in
          fit.enters ∙ ap (λ b. two_way && b) leaves ∙ and-true two_way

      -- so the LSP is two-way all along, or one-way
      way_on : (i : ℕ) (g h : Leg) → i < hops p → leg_at s l (node_at p i) ≡ Some g →
          leg_at s l (node_at p (suc i)) ≡ Some h → P h.phase → BackLabelsFit two_way g → BackLabelsFit two_way h
      way_on i g h below here there in_phase fit =
          let has = backs (node_at p (suc i)) h there in
          let far : LegFitsPlan t q l p (suc i) h = rw there at (chain.fits (suc i) below) in
          let enters : is_some h.in_fibre ≡ true = ap is_some far.in_fibre in
          let stands = beyond-stands h.phase (along.beyond h.phase in_phase) in
          let leaves : is_some h.back_out ≡ has.0 =
          has.1.leaves ∙ ap (λ b. has.0 && b) (rw (enters, stands) refl) ∙ and-true has.0 in
          let same : has.0 ≡ two_way =
          sym leaves ∙ ap is_some (comes_back i g h below here there in_phase) ∙ takes_back i g below here fit in
          subst (λ b. BackLabelsFit b h) same has.1

      ways : InPhase s l P (node_at p 0) → ((g : Leg) → leg_at s l (node_at p 0) ≡ Some g → BackLabelsFit two_way g) →
          (i : ℕ) → i ≤ hops p → (g : Leg) → leg_at s l (node_at p i) ≡ Some g → BackLabelsFit two_way g
      ways first way zero small g here = way g here
      ways first way (suc i) small h there =
          let before = all_in_phase first i (omega arith) in
          let at_d = along.next i (omega arith) before in
          let one : at_d.0 ≡ h = (let x = at_d.1 in cc (x, there)) in
          way_on i before.0 h (omega arith) before.1 there (subst (λ (k : Leg). P k.phase) one at_d.2)
          (ways first way i (omega arith) before.0 before.1)

      pub joined_legs : InPhase s l P (node_at p 0) →
          ((g : Leg) → leg_at s l (node_at p 0) ≡ Some g → BackLabelsFit two_way g) → (i : ℕ) → i < hops p →
          JoinedLegs s l P two_way (node_at p i) (node_at p (suc i))
      joined_legs first way i below = go at_u (along.next i below at_u)
        where
          at_u : InPhase s l P (node_at p i)
          at_u = all_in_phase first i (omega arith)

          go : InPhase s l P (node_at p i) → InPhase s l P (node_at p (suc i)) →
              JoinedLegs s l P two_way (node_at p i) (node_at p (suc i))
          go (g, here, in_phase) (h, there, in_phase') =
              let near : LegFitsPlan t q l p i g = rw here at (chain.fits i (omega arith)) in
              let far : LegFitsPlan t q l p (suc i) h = rw there at (chain.fits (suc i) below) in
              let out = (beyond_labels t q l p i g near (along.beyond g.phase in_phase)).1 below in
              let into = (beyond_labels t q l p (suc i) h far (along.beyond h.phase in_phase')).0 in
              let meets : LabelsMeet g.out_label h.in_label = rw there at (hop_from i g below here).rest.labels in
              let one : out.0 ≡ into.0 = rw (out.1, into.1) at meets in
              record {
                from = g;
                to = h;
                from_there = here;
                to_there = there;
                from_phase = in_phase;
                to_phase = in_phase';
                label = out.0;
                leaves = out.1;
                enters = into.1 ∙ ap Some (sym one);
                back = comes_back i g h below here there in_phase';
                both_ways = takes_back i g below here (ways first way i (omega arith) g here);
              }

  -- An LSP that is Live at its ingress is so all along; beyond a Held leg each is Held or Live; beyond an Armed one each
  -- has its label

  pub live_along : GoesAlong t s q l p IsLive
  live_along = record {
    next = λ i below at_u.
        let hop = hop_from i at_u.0 below at_u.1 in
        live_leg (leg_at s l (node_at p (suc i)))
        (live_upstream (purpose_role q) _ _ _ (rw (at_u.2) at hop.shape)).live;
    beyond = λ f live. rw live refl;
  }

  is_live : (n : NodeId) → leg_kind (leg_at s l n) ≡ LiveLeg → InPhase s l IsHeldOrLive n
  is_live n live = let leg = live_leg (leg_at s l n) live in (leg.0, leg.1, inr leg.2)

  is_held : (n : NodeId) → leg_kind (leg_at s l n) ≡ HeldLeg → InPhase s l IsHeldOrLive n
  is_held n held = let leg = held_leg (leg_at s l n) held in (leg.0, leg.1, inl leg.2)

  pub held_along : GoesAlong t s q l p IsHeldOrLive
  held_along = record {
    next = λ i below at_u.
        let hop = hop_from i at_u.0 below at_u.1 in
        elim (at_u.2) [
          | inl held ↦ elim (held_upstream (purpose_role q) _ _ _ (rw held at hop.shape)) [
            | inl same ↦ is_held (node_at p (suc i)) same
            | inr back ↦ is_live (node_at p (suc i)) back.0
          ]
          | inr live ↦ is_live (node_at p (suc i)) (live_upstream (purpose_role q) _ _ _ (rw live at hop.shape)).live
        ];
    beyond = λ f has. elim has [ inl held ↦ rw held refl | inr live ↦ rw live refl ];
  }

  pub labelled_along : GoesAlong t s q l p HasItsLabel
  labelled_along = record {
    next = λ i below at_u.
        let hop = hop_from i at_u.0 below at_u.1 in
        reserved_there (leg_at s l (node_at p (suc i)))
        (reserved_upstream (purpose_role q) _ _ _ _ hop.shape (beyond_reserved at_u.0.phase at_u.2));
    beyond = λ f beyond. beyond;
  }
