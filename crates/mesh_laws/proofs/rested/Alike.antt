-- Once nothing is under way, all legs of an LSP are as its leg at the end of its route, which is as it was reserved, or
-- Live.
use Rattle.std.proofs.{Common.{◌≡◌, ◌≤◌, ◌+◌, ℕ, zero, suc, List, length, refl, sym, ap, ◌∙◌, subst, arith, inl, inr}, lemmas.Option.slice_get_within}
use Rattle.std.specs.Prelude.{◌⊎◌, Option, Some, None}
use Rattle.ason_base.specs.{Network.Network, declared.calls.Phase.Phase, declared.calls.Phase.TheVariants.{Asked, Held, Armed, Live, Closing, Falling}, declared.calls.Role.Role, declared.calls.Role.TheVariants.{Work, Back}, declared.ids.Lsp.Lsp, declared.ids.NodeId.NodeId, declared.steps.Step.Step, declared.tables.Leg.Leg}
use Rattle.mesh_rules.specs.{Legs.reserved, Machine.Mesh, Quiet.IsQuiet}
use Rattle.lsp_laws.specs.{HopLaw.{IsNodeOnRoute, RouteFits, leg_at}, HopShapes.{HeldLeg, LegKind, LiveLeg, NoLeg, leg_kind, phase_kind}, ReportLaw.place_at}
use Rattle.lsp_laws.proofs.hops.Rows.{BothStand, NoneThere, OnlyTorn, Settled}
use Rattle.mesh_laws.proofs.{restoration.Settled.{kind_on_route, leg-in, one-hop}, restoration.Steps.{begins-at, ends-at, goes-on}}

-- no leg, or one that waits for nothing
data RestKind : LegKind → Type 0 where
  NoneRests : RestKind NoLeg
  HeldRests : RestKind HeldLeg
  LiveRests : RestKind LiveLeg

-- upstream of such a leg is one as it is
same-up : (r : Role) (u d : LegKind) → RestKind d → Settled r u d → u ≡ d
same-up r _ _ rests NoneThere = refl
same-up r _ _ rests (BothStand stands) = refl
same-up r _ _ NoneRests (OnlyTorn torn) = elim torn [ ]
same-up r _ _ HeldRests (OnlyTorn torn) = elim torn [ ]
same-up r _ _ LiveRests (OnlyTorn torn) = elim torn [ ]

abbrev RestsIn : Role → Phase → Type 0
RestsIn r q = (q ≡ reserved r) ⊎ (q ≡ Live)

rest-kind : (r : Role) (q : Phase) → RestsIn r q → RestKind (phase_kind q)
rest-kind Work q (inl is) = rw is LiveRests
rest-kind Back q (inl is) = rw is HeldRests
rest-kind r q (inr is) = rw is LiveRests

end-kind : (r : Role) (o : Option Leg) → ((g : Leg) → o ≡ Some g → RestsIn r g.phase) → RestKind (leg_kind o)
end-kind r None rests = NoneRests
end-kind r (Some g) rests = rest-kind r g.phase (rests g refl)

-- what isn't torn, nor waits
pub data RestsInPhase : Phase → Type 0 where
  IsHeld : RestsInPhase Held
  IsLive : RestsInPhase Live

rests-so : (q : Phase) → RestKind (phase_kind q) → RestsInPhase q
rests-so Held rests = IsHeld
rests-so Live rests = IsLive
rests-so Asked rests = elim rests [ ]
rests-so Armed rests = elim rests [ ]
rests-so Closing rests = elim rests [ ]
rests-so Falling rests = elim rests [ ]

module _ (t : Network) (s : Mesh) (quiet : IsQuiet s) (r : Role) (l : Lsp) (route : List Step) (e : NodeId)
    (fits : RouteFits t s r l route e) where
  abbrev kind : ℕ → LegKind
  kind i = kind_on_route s l route e i

  last-rests : RestKind (kind_on_route s l route e (length route))
  last-rests =
      subst (λ n. RestKind (leg_kind (leg_at s l n))) (sym (ends-at route e)) (end-kind r (leg_at s l e) fits.egress)

  as-last : (k i : ℕ) → i + k ≡ length route → kind_on_route s l route e i ≡ kind_on_route s l route e (length route)
  as-last zero i far = (let is : i ≡ length route = omega (arith, far) in ap (kind_on_route s l route e) is)
  as-last (suc k) i far =
      let further = as-last k (suc i) (omega (arith, far)) in
      same-up r (kind i) (kind (suc i)) (rw further last-rests)
      (one-hop t s quiet r l route e fits i (omega (arith, far))) ∙ further

  pub alike : (i : ℕ) → i ≤ length route → kind_on_route s l route e i ≡ kind_on_route s l route e (length route)
  alike i most = (let k = rest-of i (length route) most in as-last k.0 i k.1)
    where
      rest-of : (a b : ℕ) → a ≤ b → (k : ℕ) × (a + k ≡ b)
      rest-of zero b h = (b, (omega arith))
      rest-of (suc a) zero h = absurd (omega (arith, h))
      rest-of (suc a) (suc b) h = (let k = rest-of a b (omega (arith, h)) in let sum = k.1 in (k.0, (omega (arith, sum))))

  -- the place of the route at which a leg stands
  pub place-of : (n : NodeId) (g : Leg) → leg_at s l n ≡ Some g →
      (i : ℕ) × (i ≤ length route) × (n ≡ place_at route e i)
  place-of n g here = elim (fits.legs n g here) [
    | inl last ↦ (length route, (omega arith), last ∙ sym (ends-at route e))
    | inr on ↦ at on
  ]
    where
      at : IsNodeOnRoute route n → (i : ℕ) × (i ≤ length route) × (n ≡ place_at route e i)
      at (i, hop, there, is) =
          let below = slice_get_within route i hop there in
          let step = fits.hops i hop there in
          let on = goes-on t l.ingress e route fits.leads i hop step.link there step.found in
          (i, (omega (arith, below)), is ∙ sym on.near)

  kind-of : (n : NodeId) (g : Leg) → leg_at s l n ≡ Some g →
      phase_kind g.phase ≡ kind_on_route s l route e (length route)
  kind-of n g here =
      let at = place-of n g here in
      let there : leg_at s l (place_at route e at.0) ≡ Some g = subst (λ m. leg_at s l m ≡ Some g) at.2 here in
      sym (ap leg_kind there) ∙ alike at.0 at.1

  -- each leg of the LSP is none that waits
  pub leg-rests : (n : NodeId) (g : Leg) → leg_at s l n ≡ Some g → RestsInPhase g.phase
  leg-rests n g here = rests-so g.phase (rw (kind-of n g here) last-rests)

  -- at each place of the route is a leg as this one
  pub leg-there : (n : NodeId) (g : Leg) → leg_at s l n ≡ Some g → (i : ℕ) → i ≤ length route →
      (h : Leg) × (leg_at s l (place_at route e i) ≡ Some h) × (h.phase ≡ g.phase)
  leg-there n g here i most = leg-in g.phase (leg_at s l (place_at route e i)) (alike i most ∙ sym (kind-of n g here))

  -- and it is as the first leg is
  pub leg-first : (n : NodeId) (g : Leg) → leg_at s l n ≡ Some g →
      (h : Leg) × (leg_at s l l.ingress ≡ Some h) × (h.phase ≡ g.phase)
  leg-first n g here =
      subst (λ m. (h : Leg) × (leg_at s l m ≡ Some h) × (h.phase ≡ g.phase))
      (begins-at t l.ingress e route fits.leads fits.long) (leg-there n g here 0 (omega arith))
