-- What a hop says of a label that is cross-connected at one of its ends: the LSP's leg at the other end has it too.
use Rattle.std.proofs.{Common.{◌≡◌, ◌<◌, ℕ, suc, true, refl, sym, ap, subst, ◌∙◌, arith, inl, inr}, lemmas.Option.same_Some, lemmas.Bool.or_right}
use Rattle.std.specs.Prelude.{◌⊎◌, Option, Some, None}
use Rattle.ason_base.specs.{Network.{Network, receiver_of, sender_of}, declared.calls.Phase.TheVariants.Live, declared.ids.Fibre.Fibre, declared.ids.Lsp.Lsp, declared.ids.NodeId.NodeId, declared.tables.Leg.Leg}
use Rattle.mesh_rules.specs.{Legs.{is_at, reverse, reverse_of, sends_label, takes}, Machine.Mesh}
use Rattle.mesh_nodes.proofs.LabelPlaces.{back_in-taken, is-at}
use Rattle.lsp_laws.specs.HopLaw.{leg_at, mail_between}
use Rattle.lsp_laws.proofs.{hops.Chain.LegFitsPlan, hops.LegKinds.live_leg, hops.Planned.Routes, hops.Plans.{distinct, fibre_at, hops, lt_true, node_at}, hops.Purposes.{BackMeets, LabelsMeet, back_in_of, purpose_role}, hops.Rows.live_upstream, nodes.LegParts.takes-by}
use Rattle.mesh_laws.proofs.{sent.Ends.sender-back, sent.SendsOver.{SendsBack, SendsOnward, SendsOver, back-place, sends-over}, sent.Standing.Standing, sent.Takes.in-of, sent.Told.{HasPurpose, purpose-of}}
use Rattle.mesh_rules.proofs.AnswerParts.{turned-twice}

labels-same : (a b : Option ℕ) (x y : ℕ) → a ≡ Some x → b ≡ Some y → LabelsMeet a b → y ≡ x
labels-same a b x y is at meets = let same : x ≡ y = rw (is, at) at meets in sym same

-- the leg of u that was asked for its label has it
has-back : (o : Option Leg) (x : ℕ) → back_in_of o ≡ Some x → (v : Leg) × (o ≡ Some v) × (v.back_in ≡ Some x)
has-back None x e = absurd (cc e)
has-back (Some v) x e = (v, refl, e)

module _ (t : Network) (o w : Routes) (s : Mesh) (now : Standing t o w s) (f : Fibre) (x : ℕ) where
  -- The LSP's leg at the end of the fibre takes the label that g sends. It is Live too, or the label is g's back label
  -- out.
  pub record Beyond (l : Lsp) (d : NodeId) (g : Leg) : Type 0 where
    pub leg : Leg
    pub found : leg_at s l d ≡ Some leg
    pub role : leg.role ≡ g.role
    pub taken : takes f x leg ≡ true
    pub how : (leg.phase ≡ Live) ⊎ ((g.in_fibre ≡ Some (reverse f)) × (g.back_out ≡ Some x))

  -- the leg after a Live one is Live
  next-live : (l : Lsp) (n : NodeId) (g : Leg) (at : HasPurpose t s o l n g) (i : ℕ) (small : i < hops at.plan)
      (h : Leg) → leg_at s l (node_at at.plan i) ≡ Some h → h.phase ≡ Live →
      (v : Leg) × (leg_at s l (node_at at.plan (suc i)) ≡ Some v) × (v.phase ≡ Live)
  next-live l n g at i small h there live =
      live_leg (leg_at s l (node_at at.plan (suc i)))
      (live_upstream (purpose_role at.purpose) _ _ _ (rw (there, live) at (at.planned.chain.each i small).shape)).live

  module _ (l : Lsp) (n : NodeId) (g : Leg) (found : leg_at s l n ≡ Some g) (live : g.phase ≡ Live) where
    at : HasPurpose t s o l n g
    at = purpose-of t s o l n g (o l) (now.follows l) found

    there : (k : NodeId) → n ≡ k → leg_at s l k ≡ Some g
    there k is = subst (λ j. leg_at s l j ≡ Some g) is found

    -- a label that it sends
    pub beyond : (d : NodeId) → receiver_of t f ≡ Some d → sends_label f x g ≡ true → Beyond l d g
    beyond d to sent = go over.way
      where
        over : SendsOver t at.purpose l at.plan l.ingress at.planned.route (leg_at s l) (mail_between s l)
            at.planned.chain f x n g
        over =
            sends-over t at.purpose l at.plan l.ingress at.planned.route (leg_at s l) (mail_between s l)
            at.planned.chain f x n g found sent

        to_is : over.to ≡ d
        to_is = same_Some _ _ (sym over.receiver ∙ to)

        go : SendsOnward t at.purpose l at.plan l.ingress at.planned.route (leg_at s l) (mail_between s l)
            at.planned.chain f x n over.to g ⊎
            SendsBack t at.purpose l at.plan l.ingress at.planned.route (leg_at s l) (mail_between s l)
            at.planned.chain f x n over.to g → Beyond l d g
        go (inl on) =
            let i = on.place in
            let here = there (node_at at.plan i) on.here in
            let v = next-live l n g at i on.small g here live in
            let fits : LegFitsPlan t at.purpose l at.plan (suc i) v.0 =
            rw (v.1) at (at.planned.chain.fits (suc i) on.small) in
            let into =
            in-of at.purpose v.0.phase i (hops at.plan) v.0.in_label v.0.out_label fits.phase (rw (v.2) refl) in
            let meets : LabelsMeet g.out_label v.0.in_label =
            rw (here, v.1) at (at.planned.chain.each i on.small).rest.labels in
            let label = labels-same g.out_label v.0.in_label x into.0 on.label into.1 meets in
            record {
              leg = v.0;
              found = subst (λ k. leg_at s l k ≡ Some v.0) (sym on.there ∙ to_is) v.1;
              role = fits.role ∙ sym at.fits.role;
              taken = takes-by f x v.0 (fits.in_fibre ∙ ap Some on.fibre) (into.1 ∙ ap Some label);
              how = inl v.2;
            }
        go (inr back) =
            let i = back.place in
            let small = back.small in
            let here = there (node_at at.plan (suc i)) back.here in
            let meets : BackMeets (leg_at s l (node_at at.plan i)) (Some g) =
            rw here at (at.planned.chain.each i small).rest.back in
            let v = has-back (leg_at s l (node_at at.plan i)) x (sym (meets (rw live refl)) ∙ back.label) in
            let fits : LegFitsPlan t at.purpose l at.plan i v.0 = rw (v.1) at (at.planned.chain.fits i (omega arith)) in
            let leaves : v.0.out_fibre ≡ Some (fibre_at t at.plan i) = fits.out_fibre ∙ rw (lt_true small) refl in
            record {
              leg = v.0;
              found = subst (λ k. leg_at s l k ≡ Some v.0) (sym back.there ∙ to_is) v.1;
              role = fits.role ∙ sym at.fits.role;
              taken = back_in-taken v.0 f x
                  (is-at (reverse_of v.0.out_fibre) v.0.back_in f x (ap reverse_of leaves ∙ ap Some back.fibre) v.2);
              how = inr
                  (back.enters ∙ ap Some (sym (turned-twice (fibre_at t at.plan i)) ∙ ap reverse back.fibre), back.label);
            }

    -- a label that it takes as its back label in: the next leg is Live and sends it back
    pub returning : (u : NodeId) → sender_of t f ≡ Some u → reverse_of g.out_fibre ≡ Some f → g.back_in ≡ Some x →
        (v : Leg) × (leg_at s l u ≡ Some v) × (v.phase ≡ Live) × (sends_label f x v ≡ true)
    returning u from leaves label =
        let p = at.plan in
        let i = at.place in
        let over = back-place t p i f (subst (λ k. reverse_of k ≡ Some f) at.fits.out_fibre leaves) in
        let small : i < hops p = over.0 in
        let here = there (node_at p i) at.here in
        let near = distinct t l.ingress p at.planned.route i (suc i) (omega arith) (omega arith) (omega arith) in
        let ends : Some (node_at p (suc i)) ≡ Some u =
        sym (sender-back t p i near (at.planned.route.links i small)) ∙ ap (sender_of t) over.1 ∙ from in
        let v = next-live l n g at i small g here live in
        let fits : LegFitsPlan t at.purpose l p (suc i) v.0 = rw (v.1) at (at.planned.chain.fits (suc i) small) in
        let meets : BackMeets (Some g) (Some v.0) = rw (here, v.1) at (at.planned.chain.each i small).rest.back in
        let out : v.0.back_out ≡ Some x = meets (rw (v.2) refl) ∙ label in
        let sent =
        is-at (reverse_of v.0.in_fibre) v.0.back_out f x (ap reverse_of fits.in_fibre ∙ ap Some over.1) out in (
          v.0,
          subst (λ k. leg_at s l k ≡ Some v.0) (same_Some _ _ ends) v.1,
          v.2,
          or_right (is_at v.0.out_fibre v.0.out_label f x) _ sent,
        )
