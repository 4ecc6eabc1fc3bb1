-- A leg of a route that closes or is connected, its kind, and its neighbours.
use Rattle.std.proofs.Common.{◌≡◌, ◌<◌, ◌≤◌, ℕ, zero, suc, true, refl, sym, ap, ◌∙◌, inl, inr}
use Rattle.std.specs.Prelude.{◌⊎◌, Option, Some, None}
use Rattle.ason_base.specs.{Labels.has, Network.Network, declared.ids.Lsp.Lsp, declared.calls.Phase.Phase, declared.calls.Phase.TheVariants.{Asked, Held, Armed, Live, Closing, Falling}, declared.tables.Leg.Leg}
use Rattle.ason_base.specs.declared.calls.Role.TheVariants as role
use Rattle.mesh_rules.specs.{Legs.{closed, closing_phase, connected, previous, following, is_beyond_asked, is_closing, reserved, with_phase}, LocalNodes.local_node}
use Rattle.lsp_laws.specs.{LabelLaw.KeepsLabels, HopShapes.{ArmedLeg, FallingLeg, IsTorn, Closes, Falls, leg_kind, phase_kind}}
use Rattle.lsp_laws.proofs.{hops.Plans.{Plan, hops, node_at, fibre_at, lt_true, lt_false}, hops.Purposes.{Purpose, Carries, Guards, purpose_role}, hops.RowStates.{reserved_leg, torn_leg}, hops.Chain.{LegFitsPlan, PlaceFits, HasIn, HasOut, PhaseFits, LabelWasSent, no_back_out, no_label_in, reserved_fits}, hops.Activation.UsedHasOut, hops.LegKinds.{closing_kind, reserved_kind}}

module _ (t : Network) (q : Purpose) (l : Lsp) (p : Plan) where
  -- the kind of a leg that closes
  pub closed_kind : (i : ℕ) (g : Leg) → LegFitsPlan t q l p i g →
      leg_kind (Some (closed g)) ≡ torn_leg (purpose_role q) (leg_kind (Some g))
  closed_kind i g fits = rw fits.role (closing_kind g.phase (purpose_role q))

  -- it is torn
  pub torn_of : (i : ℕ) (g : Leg) → LegFitsPlan t q l p i g → is_closing g.phase ≡ true →
      IsTorn (purpose_role q) (leg_kind (Some g))
  torn_of i g fits e = go q g.phase fits.phase e
    where
      go : (q : Purpose) (f : Phase) → PhaseFits q f i (hops p) g.in_label g.out_label → is_closing f ≡ true →
          IsTorn (purpose_role q) (phase_kind f)
      go q Closing phase e = Closes
      go Carries Falling phase e = absurd phase
      go (Guards w r) Falling phase e = Falls
      go q Asked phase e = absurd cc
      go q Held phase e = absurd cc
      go q Armed phase e = absurd cc
      go q Live phase e = absurd cc

  pub closed_torn : (i : ℕ) (g : Leg) → LegFitsPlan t q l p i g → IsTorn (purpose_role q) (leg_kind (Some (closed g)))
  closed_torn i g fits = rw fits.role (go q g.phase)
    where
      go : (q : Purpose) (f : Phase) → IsTorn (purpose_role q) (phase_kind (closing_phase f (purpose_role q)))
      go Carries Asked = Closes
      go Carries Held = Closes
      go Carries Armed = Closes
      go Carries Live = Closes
      go Carries Closing = Closes
      go Carries Falling = Closes
      go (Guards w r) Asked = Closes
      go (Guards w r) Held = Closes
      go (Guards w r) Armed = Falls
      go (Guards w r) Live = Falls
      go (Guards w r) Closing = Closes
      go (Guards w r) Falling = Closes

  -- a leg whose phase and labels alone are others fits its place where these do
  altered_fits : (i : ℕ) (g : Leg) (f : Phase) (in_label out_label back_out : Option ℕ) → LegFitsPlan t q l p i g →
      LabelWasSent g.sent out_label → PhaseFits q f i (hops p) in_label out_label →
      KeepsLabels (local_node t (node_at p i))
      (record g { phase = f; in_label = in_label; out_label = out_label; back_out = back_out }) →
      LegFitsPlan t q l p i (record g { phase = f; in_label = in_label; out_label = out_label; back_out = back_out })
  altered_fits i g f in_label out_label back_out fits sent phase labels = assumption (fits, sent, phase, labels)

  pub closed_fits : (i : ℕ) (g : Leg) → LegFitsPlan t q l p i g → i < hops p → LegFitsPlan t q l p i (closed g)
  closed_fits i g fits small =
      altered_fits i g (closing_phase g.phase g.role) None g.out_label None fits fits.sent
      (rw fits.role (go q g.phase fits.phase))
      (no_label_in (local_node t (node_at p i)) (closed g) refl (λ keeps. no_back_out (closed g) refl)
      fits.labels.back_of_link)
    where
      go : (q : Purpose) (f : Phase) → PhaseFits q f i (hops p) g.in_label g.out_label →
          PhaseFits q (closing_phase f (purpose_role q)) i (hops p) None g.out_label
      go Carries Asked phase = (small, refl)
      go Carries Held phase = absurd phase
      go Carries Armed phase = absurd phase
      go Carries Live phase = (small, refl)
      go Carries Closing phase = (small, refl)
      go Carries Falling phase = absurd phase
      go (Guards w r) Asked phase = (small, refl)
      go (Guards w r) Held phase = (small, refl)
      go (Guards w r) Armed phase = (small, refl, phase.2)
      go (Guards w r) Live phase = (small, refl, phase.1)
      go (Guards w r) Closing phase = (small, refl)
      go (Guards w r) Falling phase = (small, refl)

  -- Neighbours

  pub previous_is : (i : ℕ) (g : Leg) → LegFitsPlan t q l p (suc i) g →
      previous g ≡ Some (record { node = node_at p i; fibre = fibre_at t p i })
  previous_is i g fits = rw (fits.prev, fits.in_fibre) refl

  pub previous_none : (g : Leg) → LegFitsPlan t q l p zero g → previous g ≡ None
  previous_none g fits = rw fits.prev refl

  pub following_is : (i : ℕ) (g : Leg) → LegFitsPlan t q l p i g → i < hops p →
      following g ≡ Some (record { node = node_at p (suc i); fibre = fibre_at t p i })
  following_is i g fits small = rw (fits.next, fits.out_fibre, lt_true small) refl

  pub following_none : (i : ℕ) (g : Leg) → LegFitsPlan t q l p i g → hops p ≤ i → following g ≡ None
  following_none i g fits end = rw (fits.next, lt_false end) refl

  -- the leg of a Resv
  pub connected_fits : (i : ℕ) (g : Leg) (label : Option ℕ) (x : ℕ) → LegFitsPlan t q l p i g → HasIn i label →
      has g.sent x ≡ true → KeepsLabels (local_node t (node_at p i)) (connected g label x) →
      LegFitsPlan t q l p i (connected g label x)
  connected_fits i g label x fits enters sent labels =
      altered_fits i g (reserved g.role) label (Some x) g.back_out fits sent
      (rw fits.role (reserved_fits q i (hops p) label (Some x) enters (λ small. (x, refl)))) labels

  -- it has its label
  pub connected_kind : (i : ℕ) (g : Leg) (label : Option ℕ) (x : ℕ) → LegFitsPlan t q l p i g →
      leg_kind (Some (connected g label x)) ≡ reserved_leg (purpose_role q)
  connected_kind i g label x fits = ap (λ r. phase_kind (reserved r)) fits.role ∙ reserved_kind (purpose_role q)

  -- a leg that changes its phase alone
  pub phase_fits : (i : ℕ) (g : Leg) (f : Phase) → LegFitsPlan t q l p i g →
      PhaseFits q f i (hops p) g.in_label g.out_label → LegFitsPlan t q l p i (with_phase f g)
  phase_fits i g f fits phase =
      altered_fits i g f g.in_label g.out_label g.back_out fits fits.sent phase (record {
        one = fits.labels.one;
        of_link = fits.labels.of_link;
        one_back = fits.labels.one_back;
        back_of_link = fits.labels.back_of_link;
      })

  out_label : (i : ℕ) (g : Leg) → LegFitsPlan t q l p i g → (x : ℕ) × (g.out_label ≡ Some x) →
      (x : ℕ) × (g.out_label ≡ Some x) × (has g.sent x ≡ true)
  out_label i g fits (x, is) = (x, is, go g.out_label is fits.sent)
    where
      go : (o : Option ℕ) → o ≡ Some x → LabelWasSent g.sent o → has g.sent x ≡ true
      go None e sent = absurd (cc e)
      go (Some y) e sent = let same : y ≡ x = cc e in rw (← same) sent

  -- an Armed or a Falling leg has a label out, which was sent on
  pub in_use_out : (i : ℕ) (u : Option Leg) → PlaceFits t q l p i u → i < hops p → UsedHasOut u
  in_use_out i None fits small which = tt
  in_use_out i (Some g) fits small which = out_label i g fits (go q g.phase which fits.phase)
    where
      go : (q : Purpose) (f : Phase) → (phase_kind f ≡ ArmedLeg) ⊎ (phase_kind f ≡ FallingLeg) →
          PhaseFits q f i (hops p) g.in_label g.out_label → (x : ℕ) × (g.out_label ≡ Some x)
      go (Guards w r) Armed which phase = phase.2 small
      go (Guards w r) Falling which phase = phase.2 small
      go Carries Armed which phase = absurd phase
      go Carries Falling which phase = absurd phase
      go q Asked which phase = absurd (elim which [ inl e ↦ cc e | inr e ↦ cc e ])
      go q Held which phase = absurd (elim which [ inl e ↦ cc e | inr e ↦ cc e ])
      go q Live which phase = absurd (elim which [ inl e ↦ cc e | inr e ↦ cc e ])
      go q Closing which phase = absurd (elim which [ inl e ↦ cc e | inr e ↦ cc e ])

  -- An Armed leg and a Held one may change into each other, and become Live

  -- a Held leg that isn't at the egress may be Armed
  pub armed_fits : (i : ℕ) (g : Leg) → LegFitsPlan t q l p i g → g.phase ≡ Held → i < hops p →
      LegFitsPlan t q l p i (with_phase Armed g)
  armed_fits i g fits held small =
      phase_fits i g Armed fits
      (go q (let phase = fits.phase in rw held at phase))
    where
      go : (q : Purpose) → PhaseFits q Held i (hops p) g.in_label g.out_label →
          PhaseFits q Armed i (hops p) g.in_label g.out_label
      go Carries phase = absurd phase
      go (Guards w r) phase = (small, phase.0, phase.1)

  -- an Armed leg is a backup's
  pub armed_role : (i : ℕ) (g : Leg) → LegFitsPlan t q l p i g → g.phase ≡ Armed → g.role ≡ role.Back
  armed_role i g fits armed = fits.role ∙ go q (let phase = fits.phase in rw armed at phase)
    where
      go : (q : Purpose) → PhaseFits q Armed i (hops p) g.in_label g.out_label → purpose_role q ≡ role.Back
      go Carries phase = absurd phase
      go (Guards w r) phase = refl

  -- a leg beyond Asked has its labels
  pub beyond_labels : (i : ℕ) (g : Leg) → LegFitsPlan t q l p i g → is_beyond_asked g.phase ≡ true →
      HasIn i g.in_label × HasOut i (hops p) g.out_label
  beyond_labels i g fits beyond = go q g.phase beyond fits.phase
    where
      go : (q : Purpose) (f : Phase) → is_beyond_asked f ≡ true →
          PhaseFits q f i (hops p) g.in_label g.out_label → HasIn i g.in_label × HasOut i (hops p) g.out_label
      go (Guards w r) Held beyond phase = phase
      go (Guards w r) Armed beyond phase = (phase.1, phase.2)
      go q Live beyond phase = phase
      go Carries Held beyond phase = absurd phase
      go Carries Armed beyond phase = absurd phase
      go q Asked beyond phase = absurd cc
      go q Closing beyond phase = absurd cc
      go q Falling beyond phase = absurd cc

  -- so it may be Live, a Held one as an Armed one
  pub held_live_fits : (i : ℕ) (g : Leg) → LegFitsPlan t q l p i g → g.phase ≡ Held →
      LegFitsPlan t q l p i (with_phase Live g)
  held_live_fits i g fits held = phase_fits i g Live fits (beyond_labels i g fits (ap is_beyond_asked held))

  pub live_fits : (i : ℕ) (g : Leg) → LegFitsPlan t q l p i g → g.phase ≡ Armed →
      LegFitsPlan t q l p i (with_phase Live g)
  live_fits i g fits armed = phase_fits i g Live fits (beyond_labels i g fits (ap is_beyond_asked armed))

  -- and a backup's may be Held, a Live one as an Armed one
  again_fits : (i : ℕ) (g : Leg) → LegFitsPlan t q l p i g → is_beyond_asked g.phase ≡ true →
      purpose_role q ≡ role.Back →
      LegFitsPlan t q l p i (with_phase Held g)
  again_fits i g fits beyond back = phase_fits i g Held fits (go q back (beyond_labels i g fits beyond))
    where
      go : (q : Purpose) → purpose_role q ≡ role.Back → HasIn i g.in_label × HasOut i (hops p) g.out_label →
          PhaseFits q Held i (hops p) g.in_label g.out_label
      go Carries back labels = absurd (cc back)
      go (Guards w r) back labels = labels

  pub held_fits : (i : ℕ) (g : Leg) → LegFitsPlan t q l p i g → g.phase ≡ Armed →
      LegFitsPlan t q l p i (with_phase Held g)
  held_fits i g fits armed =
      again_fits i g fits (ap is_beyond_asked armed) (sym fits.role ∙ armed_role i g fits armed)

  pub live_held_fits : (i : ℕ) (g : Leg) → LegFitsPlan t q l p i g → g.phase ≡ Live → purpose_role q ≡ role.Back →
      LegFitsPlan t q l p i (with_phase Held g)
  live_held_fits i g fits live back = again_fits i g fits (ap is_beyond_asked live) back

  -- so a label in, away from the ingress
  pub in_label_is : (i : ℕ) (g : Leg) → LegFitsPlan t q l p (suc i) g → is_beyond_asked g.phase ≡ true →
      (y : ℕ) × (g.in_label ≡ Some y)
  in_label_is i g fits beyond = (beyond_labels (suc i) g fits beyond).0

-- the place before, if there is one
abbrev pub Before : ℕ → Type 0
Before i = (i ≡ 0) ⊎ ((j : ℕ) × (suc j ≡ i))

pub before_or_first : (i : ℕ) → Before i
before_or_first zero = inl refl
before_or_first (suc j) = inr (j, refl)
