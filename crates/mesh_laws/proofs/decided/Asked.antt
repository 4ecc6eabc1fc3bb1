-- While the leg at the ingress is Asked, its Path or the answer is on one hop: all legs up to there are Asked.
use Rattle.std.proofs.Common.{◌≡◌, ◌≢◌, ◌≤◌, ◌<◌, ◌⊎◌, ℕ, zero, suc, ◌+◌, List, refl, arith, inl, inr}
use Rattle.std.specs.Prelude.{Option, Some, None, map}
use Rattle.ason_base.specs.{Network.Network, declared.calls.Phase.TheVariants.Asked, declared.ids.Lsp.Lsp, declared.tables.Leg.Leg}
use Rattle.mesh_rules.specs.Machine.{Mesh}
use Rattle.lsp_laws.specs.{HopLaw.{leg_at, mail_between}, HopShapes.{AskedLeg, LegKind, MsgKind, leg_kind, msg_kind}}
use Rattle.lsp_laws.proofs.{hops.Chain.{Chain, LegFitsPlan, PhaseFits, is_or_not}, hops.LegKinds.same_phase, hops.Plans.{Plan, hops, node_at}, hops.Purposes.{Carries, Guards, Purpose, purpose_role}, hops.RowStates.let_go_not_asked}
use Rattle.mesh_laws.proofs.decided.AskedRow.{AskedRow, ComesBack, Farther, Granted, OnItsWay, asked-row, given-not-asked}

module _ (l : Lsp) (p : Plan) (s : Mesh) where
  -- the leg at a place of the route
  abbrev pub kind_at : ℕ → LegKind
  kind_at i = leg_kind (leg_at s l (node_at p i))

  -- what goes down the hop after it
  abbrev pub down_on : ℕ → List MsgKind
  down_on i = map msg_kind (mail_between s l (node_at p i) (node_at p (suc i)))

  -- and what comes up that hop
  abbrev pub up_on : ℕ → List MsgKind
  up_on i = map msg_kind (mail_between s l (node_at p (suc i)) (node_at p i))

asked-inside : (q : Purpose) (i m : ℕ) (enter leave : Option ℕ) → PhaseFits q Asked i m enter leave → i < m
asked-inside Carries i m enter leave fits = fits.0
asked-inside (Guards w r) i m enter leave fits = fits.0

-- an Asked leg
pub asked-leg : (o : Option Leg) → leg_kind o ≡ AskedLeg → (g : Leg) × (o ≡ Some g) × (g.phase ≡ Asked)
asked-leg None kind = absurd (cc kind)
asked-leg (Some g) kind = (g, refl, same_phase g.phase Asked kind)

-- the hop on which it is: all legs up to there are Asked, and the next one isn't
pub record At (q : Purpose) (l : Lsp) (p : Plan) (s : Mesh) : Type 0 where
  pub place : ℕ
  pub below : place < hops p
  pub asked : (i : ℕ) → i ≤ place → kind_at l p s i ≡ AskedLeg
  pub row : AskedRow (purpose_role q) (kind_at l p s (suc place)) (down_on l p s place) (up_on l p s place)
  pub ends : kind_at l p s (suc place) ≡ AskedLeg → ⊥

module _ (t : Network) (q : Purpose) (l : Lsp) (p : Plan) (s : Mesh)
    (chain : Chain t q l p (leg_at s l) (mail_between s l)) where
  -- no leg is Asked at the egress
  pub is-inside : (i : ℕ) → i ≤ hops p → kind_at l p s i ≡ AskedLeg → i < hops p
  is-inside i most kind =
      let g = asked-leg (leg_at s l (node_at p i)) kind in
      let fits : LegFitsPlan t q l p i g.0 = rw (g.1) at (chain.fits i most) in
      asked-inside q i (hops p) g.0.in_label g.0.out_label (let phase = fits.phase in rw (g.2) at phase)

  -- what is beside an Asked leg
  pub row-at : (i : ℕ) → i < hops p → kind_at l p s i ≡ AskedLeg →
      AskedRow (purpose_role q) (kind_at l p s (suc i)) (down_on l p s i) (up_on l p s i)
  row-at i below kind = asked-row (purpose_role q) _ _ _ (rw kind at (chain.each i below).shape)

  further : (i : ℕ) → ((j : ℕ) → j ≤ i → kind_at l p s j ≡ AskedLeg) → kind_at l p s (suc i) ≡ AskedLeg →
      (j : ℕ) → j ≤ suc i → kind_at l p s j ≡ AskedLeg
  further i all next j most = go (is_or_not j (suc i))
    where
      go : (j ≡ suc i) ⊎ (j ≢ suc i) → kind_at l p s j ≡ AskedLeg
      go (inl e) = rw e next
      go (inr ne) = all j (omega (arith, most, ne))

  from-place : (left i : ℕ) → left + i ≡ hops p → ((j : ℕ) → j ≤ i → kind_at l p s j ≡ AskedLeg) → At q l p s
  from-place zero i whole all =
      absurd (let b = is-inside i (omega (arith, whole)) (all i (omega arith)) in omega (arith, whole, b))
  from-place (suc left) i whole all =
      go (row-at i below (all i (omega arith))) (λ next. from-place left (suc i) (omega (arith, whole)) (further i all next))
    where
      below : i < hops p
      below = omega (arith, whole)

      at-here : AskedRow (purpose_role q) (kind_at l p s (suc i)) (down_on l p s i) (up_on l p s i) →
          (kind_at l p s (suc i) ≡ AskedLeg → ⊥) → At q l p s
      at-here row ends = record { place = i; below = below; asked = all; row = row; ends = ends }

      go : AskedRow (purpose_role q) (kind_at l p s (suc i)) (down_on l p s i) (up_on l p s i) →
          (kind_at l p s (suc i) ≡ AskedLeg → At q l p s) → At q l p s
      go (OnItsWay none down up) on = at-here (OnItsWay none down up) (λ e. cc (none, e))
      go (Farther next down up) on = on next
      go (ComesBack gone down up) on = at-here (ComesBack gone down up) (let_go_not_asked (purpose_role q) _ gone)
      go (Granted given down up) on = at-here (Granted given down up) (given-not-asked _ given)

  -- There is one such hop, while the leg at the ingress is Asked.
  pub find-at : kind_at l p s 0 ≡ AskedLeg → At q l p s
  find-at kind = from-place (hops p) 0 (omega arith) (λ j most. let e : j ≡ 0 = omega (arith, most) in rw e kind)
