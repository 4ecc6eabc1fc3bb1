-- Once nothing is under way, all legs of an LSP are as its leg at the ingress: so none there is Armed.
use Rattle.std.proofs.Common.{◌≡◌, ◌<◌, ◌≤◌, ℕ, zero, suc, List, length, refl, sym, ap, ◌∙◌, subst, arith, inl, inr}
use Rattle.std.specs.Prelude.{◌⊎◌, Option, Some, None}
use Rattle.ason_base.specs.{Network.{Network, other_end}, declared.calls.Phase.Phase, declared.calls.Phase.TheVariants.{Asked, Held, Armed, Live, Closing, Falling}, declared.calls.Role.Role, declared.calls.Role.TheVariants.{Work, Back}, declared.ids.Lsp.Lsp, declared.ids.NodeId.NodeId, declared.steps.Step.Step, declared.tables.Leg.Leg}
use Rattle.mesh_rules.specs.{Legs.reserved, Machine.Mesh, Quiet.IsQuiet}
use Rattle.lsp_laws.specs.{HopLaw.{RouteFits, StepFits, leg_at}, HopShapes.{ArmedLeg, AskedLeg, ClosingLeg, FallingLeg, HeldLeg, LegKind, LiveLeg, NoLeg, leg_kind, phase_kind}, ReportLaw.place_at}
use Rattle.lsp_laws.proofs.{hops.Law.step_at, hops.RowStates.{ArmedStands, KindStands}, hops.Rows.{BothStand, NoneThere, OnlyTorn, Settled, settled}}
use Rattle.mesh_laws.proofs.restoration.Steps.{begins-at, ends-at, goes-on}

-- beyond a leg that stands is one as it is
same-kind : (r : Role) (u d k : LegKind) → u ≡ k → KindStands k → Settled r u d → d ≡ k
same-kind r _ _ k e stands NoneThere = let none : KindStands NoLeg = rw (← e) at stands in elim none [ ]
same-kind r _ d k e stands (OnlyTorn torn) = let none : KindStands NoLeg = rw (← e) at stands in elim none [ ]
same-kind r _ _ k e stands (BothStand other) = e

-- the egress is never Armed
not-armed : (r : Role) (f : Phase) → (f ≡ reserved r) ⊎ (f ≡ Live) → f ≡ Armed → ⊥
not-armed Work f (inl is) armed = cc (is, armed)
not-armed Back f (inl is) armed = cc (is, armed)
not-armed r f (inr is) armed = cc (is, armed)

-- the phase that a kind of leg stands for
abbrev phase_of_kind : LegKind → Option Phase
phase_of_kind NoLeg = None
phase_of_kind AskedLeg = Some Asked
phase_of_kind HeldLeg = Some Held
phase_of_kind ArmedLeg = Some Armed
phase_of_kind LiveLeg = Some Live
phase_of_kind ClosingLeg = Some Closing
phase_of_kind FallingLeg = Some Falling

kind-phase : (q : Phase) → phase_of_kind (phase_kind q) ≡ Some q
kind-phase Asked = refl
kind-phase _ = refl

-- where the kind is that of a phase, there is a leg in that phase
pub leg-in : (q : Phase) (o : Option Leg) → leg_kind o ≡ phase_kind q → (g : Leg) × (o ≡ Some g) × (g.phase ≡ q)
leg-in q None e = absurd (let none = ap phase_of_kind e in let some = kind-phase q in cc (none, some))
leg-in q (Some g) e = (
  g,
  refl,
  (let same = sym (kind-phase g.phase) ∙ ap phase_of_kind e ∙ kind-phase q in cc same),
)

-- a leg that is there has another kind than none
pub some-kind : (g : Leg) → leg_kind (Some g) ≡ NoLeg → ⊥
some-kind g e = (let some = kind-phase g.phase in cc (e, some))

-- what leg the LSP has at this place of its route
abbrev pub kind_on_route : Mesh → Lsp → List Step → NodeId → ℕ → LegKind
kind_on_route s l route e i = leg_kind (leg_at s l (place_at route e i))

module _ (t : Network) (s : Mesh) (quiet : IsQuiet s) (r : Role) (l : Lsp) (route : List Step) (e : NodeId)
    (fits : RouteFits t s r l route e) where
  abbrev kind : ℕ → LegKind
  kind i = kind_on_route s l route e i

  -- over each hop both legs are in one phase, or the upstream one is gone
  pub one-hop : (i : ℕ) → i < length route → Settled r (kind i) (kind (suc i))
  one-hop i below =
      let step = step_at route i below in
      let its : StepFits t s r l step.0 = fits.hops i step.0 step.1 in
      let on = goes-on t l.ingress e route fits.leads i step.0 its.link step.1 its.found in
      let shape = its.fits.shape in
      settled r (kind i) (kind (suc i)) (rw (on.near, on.far) (rw (
        quiet.mail step.0.node.0 (other_end its.link step.0.node).0,
        quiet.mail (other_end its.link step.0.node).0 step.0.node.0,
      ) at shape))

  -- and so all are as the first one, where that stands
  pub all-alike : (k : LegKind) → KindStands k → kind 0 ≡ k → (i : ℕ) → i ≤ length route → kind i ≡ k
  all-alike k stands first zero most = first
  all-alike k stands first (suc i) most =
      same-kind r (kind i) (kind (suc i)) k (all-alike k stands first i (omega arith)) stands
      (one-hop i (omega arith))

  -- no activation is under way
  pub never-armed : (g : Leg) → leg_at s l l.ingress ≡ Some g → g.phase ≡ Armed → ⊥
  never-armed g here armed =
      let first : kind 0 ≡ ArmedLeg = rw (begins-at t l.ingress e route fits.leads fits.long, here, armed) refl in
      let last : leg_kind (leg_at s l e) ≡ ArmedLeg =
      subst (λ n. leg_kind (leg_at s l n) ≡ ArmedLeg) (ends-at route e)
      (all-alike ArmedLeg ArmedStands first (length route) (omega arith)) in
      let leg = leg-in Armed (leg_at s l e) last in
      not-armed r leg.0.phase (fits.egress leg.0 leg.1) leg.2
