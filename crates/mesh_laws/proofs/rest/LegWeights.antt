-- What messages to a leg weigh, and which legs take no Resv.
use Rattle.std.proofs.Common.{◌≡◌, ◌≤◌, ◌<◌, ℕ, zero, suc, ◌+◌, ◌-◌, ◌*◌, true, false, List, length, refl, sym, subst, arith, inl, inr}
use Rattle.std.specs.Prelude.{◌⊎◌, Option, Some, None}
use Rattle.mesh_rules.specs.{declared.limits.TheConstants.MOST_LINKS_OF_ROUTE, Legs.{closing_phase, previous, reserved}, Machine.Mesh}
use Rattle.ason_base.specs.{Network.Network, declared.ids.Lsp.Lsp, declared.ids.NodeId.NodeId, declared.ids.LinkId.LinkId, declared.steps.Step.Step, declared.calls.Phase.Phase, declared.calls.Phase.TheVariants.{Asked, Held, Armed, Live, Closing, Falling}, declared.calls.Role.Role, declared.messages.PathRole.PathRole, declared.messages.PathRole.TheVariants.{Work, Back}, declared.messages.Msg.TheVariants.{Path, Resv}, declared.tables.Leg.Leg}
use Rattle.ason_base.specs.declared.calls.Role.TheVariants as role
use Rattle.lsp_laws.specs.{HopShapes.{NoLeg, ArmedLeg, FallingLeg, leg_kind, phase_kind}, HopLaw.leg_at}
use Rattle.lsp_laws.proofs.{hops.Plans.{Plan, fibre_at, node_at}, hops.Purposes.{Purpose, purpose_role}, hops.Chain.{PlaceFits, LegFitsPlan}, hops.LegChanges.{previous_is, previous_none}}
use Rattle.mesh_laws.specs.Weights.{FirstRoutes, hops_back, weight, path_weight, asked_weight, phase_weight, resv_weight, way}
use Rattle.mesh_laws.proofs.rest.Near.{ResvLight}

-- Small facts of weights

-- A Path weighs most where its LSP has no leg.
pub path-most : (r : PathRole) (g : Option Leg) (k : ℕ) → path_weight r g k ≤ path_weight r None k
path-most (Work guard) g k = omega arith
path-most (Back true work primary) g k = omega arith
path-most (Back false work primary) None k = omega arith
path-most (Back false work primary) (Some g) k = omega arith

-- A Path weighs less with one hop less before it.
pub path-less : (r : PathRole) (k : ℕ) → path_weight r None k < path_weight r None (suc k)
path-less (Work guard) k = omega arith
path-less (Back true work primary) k = omega arith
path-less (Back false work primary) k = omega arith

-- A Path weighs the same at any two legs.
pub path-still : (r : PathRole) (g h : Leg) (k : ℕ) → path_weight r (Some h) k ≤ path_weight r (Some g) k
path-still (Work guard) g h k = omega arith
path-still (Back true work primary) g h k = omega arith
path-still (Back false work primary) g h k = omega arith

phase-some : (f : Phase) (r : Role) (k : ℕ) → 1 ≤ phase_weight f r (suc k)
phase-some Asked role.Work k = omega arith
phase-some Asked role.Back k = omega arith
phase-some Held r k = omega arith
phase-some Armed r k = omega arith
phase-some Live r k = omega arith
phase-some Closing r k = omega arith
phase-some Falling r k = omega arith

-- A Resv weighs something.
pub resv-some : (g : Option Leg) (k : ℕ) → 1 ≤ resv_weight g (suc k)
resv-some None k = omega arith
resv-some (Some g) k = phase-some g.phase g.role k

-- a leg that takes no Resv
abbrev pub IsDeaf : Leg → Type 0
IsDeaf g = (k : ℕ) → phase_weight g.phase g.role k ≡ 1

-- No Resv gets heavier at a leg at which it weighs one.
pub deaf-light : (g : Option Leg) (h : Leg) → IsDeaf h → ResvLight g (Some h)
deaf-light g h deaf k = let one = deaf (suc k) in let some = resv-some g k in omega arith

-- A Resv weighs one at a torn leg.
pub closed-deaf : (f : Phase) (r : Role) (k : ℕ) → phase_weight (closing_phase f r) r k ≡ 1
closed-deaf Armed role.Back k = refl
closed-deaf Live role.Back k = refl
closed-deaf Armed role.Work k = refl
closed-deaf Live role.Work k = refl
closed-deaf Asked r k = refl
closed-deaf Held r k = refl
closed-deaf Closing r k = refl
closed-deaf Falling r k = refl

-- A Resv weighs one at a leg that is connected or held.
pub reserved-deaf : (r : Role) (k : ℕ) → phase_weight (reserved r) r k ≡ 1
reserved-deaf role.Work k = refl
reserved-deaf role.Back k = refl

-- the most that a Resv to a leg of this role weighs
asked-more : (r : Role) (k : ℕ) → k + way ≤ asked_weight r k
asked-more role.Work k = omega arith
asked-more role.Back k = omega arith

phase-most : (f : Phase) (r : Role) (k : ℕ) → phase_weight f r (suc k) ≤ asked_weight r (suc k)
phase-most Asked r k = omega arith
phase-most Armed r k = asked-more r (suc k)
phase-most _ r k = let h = asked-more r (suc k) in omega arith

-- A Resv weighs at most what it weighs at an Asked leg.
pub resv-most : (t : Network) (q : Purpose) (l : Lsp) (p : Plan) (i : ℕ) (g : Option Leg) (k : ℕ) →
    PlaceFits t q l p i g →
    resv_weight g (suc k) ≤ asked_weight (purpose_role q) (suc k)
resv-most t q l p i None k fits = let h = asked-more (purpose_role q) (suc k) in omega arith
resv-most t q l p i (Some g) k fits =
    subst (λ r. phase_weight g.phase g.role (suc k) ≤ asked_weight r (suc k)) fits.role (phase-most g.phase g.role k)

-- at a leg that is Armed or Falling
pub resv-marked : (g : Option Leg) (k : ℕ) → (leg_kind g ≡ ArmedLeg) ⊎ (leg_kind g ≡ FallingLeg) →
    resv_weight g (suc k) ≤ suc k + way
resv-marked None k marked = omega arith
resv-marked (Some g) k marked = go g.phase marked
  where
    go : (f : Phase) → (phase_kind f ≡ ArmedLeg) ⊎ (phase_kind f ≡ FallingLeg) →
        phase_weight f g.role (suc k) ≤ suc k + way
    go Asked (inl e) = absurd (cc e)
    go Asked (inr e) = absurd (cc e)
    go Armed e = omega arith
    go Held e = omega arith
    go Live e = omega arith
    go Closing e = omega arith
    go Falling e = omega arith

-- what is sent to a node whose leg stays

-- A Resv that is sent weighs at most what a Resv of its LSP weighs at the leg there.
pub sent-resv : (o : FirstRoutes) (s s' : Mesh) (l j : Lsp) (n : NodeId) (most : ℕ) → j ≡ l →
    leg_at s' j n ≡ leg_at s j n → resv_weight (leg_at s l n) (suc (hops_back o l n.0)) ≤ most →
    (d : ℕ) (e : NodeId) (k : LinkId) (x : ℕ) → weight o s' d n.0 (Resv j e k x) ≤ most
sent-resv o s s' l j n most is stays small d e k x =
    subst (λ (h : Option Leg). resv_weight h (suc (hops_back o j n.0)) ≤ most) (sym stays)
    (subst (λ (m : Lsp). resv_weight (leg_at s m n) (suc (hops_back o m n.0)) ≤ most) (sym is) small)

-- A Path that activates no more weighs one and its steps, where its LSP has a leg.
pub sent-back : (o : FirstRoutes) (s s' : Mesh) (l j : Lsp) (n : NodeId) (h : Leg) → j ≡ l →
    leg_at s' j n ≡ leg_at s j n → leg_at s l n ≡ Some h →
    (d : ℕ) (e : NodeId) (k : LinkId) (route : List Step) (set : List ℕ) (up : Option ℕ) (work : ℕ)
    (primary : List Step) →
    weight o s' d n.0 (Path j e k route set up (Back false work primary)) ≤ suc (length route)
sent-back o s s' l j n h is stays there d e k route set up work primary =
    subst (λ (x : Option Leg). path_weight (Back false work primary) x (suc (length route)) ≤ suc (length route))
    (sym stays)
    (subst (λ (m : Lsp). path_weight (Back false work primary) (leg_at s m n) (suc (length route)) ≤ suc (length route))
    (sym is) (rw there (omega arith)))

-- The phase of a leg is that of some leg.
pub no-leg_kind : (f : Phase) → phase_kind f ≡ NoLeg → ⊥
no-leg_kind Asked e = cc e
no-leg_kind _ e = cc e

-- An Asked leg weighs less with one hop less behind it.
pub asked-less : (r : Role) (k : ℕ) → asked_weight r (suc k) < asked_weight r (suc (suc k))
asked-less role.Work k = omega arith
asked-less role.Back k = omega arith

-- a PathTear and a PathErr weigh less than a Resv to a leg that waits for it
pub asked-tears : (r : Role) (n i k : ℕ) → suc k ≡ i → i < n → n ≤ MOST_LINKS_OF_ROUTE →
    suc (way * (n - i)) + (suc k + 0) < asked_weight r (suc i)
asked-tears role.Work n i k is below short = omega arith
asked-tears role.Back n i k is below short = omega arith

-- the previous node of a leg
pub data PrevOf (t : Network) (p : Plan) (i : ℕ) (g : Leg) : Type 0 where
  AtIngress : previous g ≡ None → PrevOf t p i g
  After : (k : ℕ) → suc k ≡ i → previous g ≡ Some (record { node = node_at p k; fibre = fibre_at t p k }) →
      PrevOf t p i g

-- The previous node of a leg that fits its place is the one before it on the route, or none at the ingress.
pub prev-of : (t : Network) (q : Purpose) (l : Lsp) (p : Plan) (i : ℕ) (g : Leg) → LegFitsPlan t q l p i g →
    PrevOf t p i g
prev-of t q l p zero g fits = AtIngress (previous_none t q l p g fits)
prev-of t q l p (suc k) g fits = After k refl (previous_is t q l p k g fits)
