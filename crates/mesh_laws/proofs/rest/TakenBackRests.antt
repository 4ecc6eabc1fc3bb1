-- A Path that takes an activation back: what it sends weighs less, and nothing that stays gets heavier.
use Rattle.std.proofs.Common.{◌≡◌, ◌<◌, ℕ, suc, false, List, drop, length, refl, subst, arith, inl, inr}
use Rattle.std.specs.Prelude.{◌&&◌, Option, Some, None}
use Rattle.ason_base.specs.{Network.Network, declared.steps.Step.Step, declared.calls.Phase.TheVariants.Held, declared.messages.PathRole.PathRole, declared.messages.PathRole.TheVariants.Back, declared.tables.Leg.Leg}
use Rattle.ason_base.proofs.Numbers.{less-plus_none}
use Rattle.mesh_rules.specs.{declared.neighbours.Neighbour.Neighbour, Changes.{Answer, puts}, LocalNodes.local_node, Legs.{following, is_active_backup, is_over, previous, with_phase}, Machine.{Mesh, without_first}, Paths.path_with, Activations.taken_on}
use Rattle.lsp_laws.specs.HopLaw.{messages_of, leg_at}
use Rattle.mesh_nodes.proofs.Cases.{if_cases}
use Rattle.lsp_laws.proofs.{hops.Plans.{hops, fibre_at, node_at, distinct}, hops.PathTaken.plain_taken, hops.Rows.live_upstream, hops.Purposes.purpose_role, hops.LegKinds.live_leg, hops.LegChanges.following_is, hops.Views.leg-there, hops.Taken.ahead}
use Rattle.mesh_laws.specs.Weights.{FirstRoutes, weight}
use Rattle.mesh_laws.proofs.{rest.Committed.taken_mesh, rest.LegWeights.{path-still, deaf-light, sent-back, no-leg_kind}, rest.Near.{LightFor, part-nothing, light-both}, rest.PathCame.{IsPart, PathCame, asks, leg-stands, path_message}}

module _ (t : Network) (s : Mesh) (o : FirstRoutes) (work : ℕ) (primary : List Step)
    (came : PathCame t s o (Back false work primary)) (g : Leg)
    (here : leg_at s came.l (node_at came.p (suc came.i)) ≡ Some g) where
  abbrev back : PathRole
  back = Back false work primary

  open came use {l, p, i, q, planned.{route, chain}, k, r, rest, was}
  open ahead t s p i use {u as from, d as at, next as far}
  open leg-stands t s o back came g here use {its, its-own, leg-fits, this-hop, longer, left-is}

  abbrev Fits : Answer → Type 0
  Fits = IsPart t s o back came

  weighs : weight o s from.0 at.0 (path_message t s o back came) ≡ suc (length r)
  weighs = rw here refl

  light-held : (x : ℕ) → LightFor (leg_at s l at) (Some (with_phase Held g))
      (messages_of l ((without_first s from.0 at.0).mail x at.0))
  light-held x = light-both _ _ _
      (rw here (λ r k. path-still r g (with_phase Held g) k))
      (deaf-light (leg_at s l at) (with_phase Held g) (λ k. refl))

  -- the next node has a leg
  further : suc i < hops p → (h : Leg) × (leg_at s l far ≡ Some h)
  further small =
      elim (plain_taken (purpose_role q) _ _ _ _ this-hop.shape) [
        | inl gone ↦ absurd (no-leg_kind g.phase (rw here at gone))
        | inr taken ↦ (let live = (live_upstream (purpose_role q) _ _ _
            (rw taken.live at (chain.each (suc i) small).shape)).live in
            let leg = live_leg (leg_at s l far) live in (leg.0, leg.1))
      ]

  onward : (h : Option Neighbour) → following g ≡ h → Fits (puts (with_phase Held g) (taken_on g (drop 1 r) back h))
  onward None on = record { light = rw its-own light-held; sends = rw (weighs) (omega arith) }
  onward (Some h) on = go h on (following_is t q l p (suc i) g leg-fits small)
    where
      small : suc i < hops p
      small = longer h on

      go : (h : Neighbour) → following g ≡ Some h →
          following g ≡ Some (record { node = far; fibre = fibre_at t p (suc i) }) →
          Fits (puts (with_phase Held g) (taken_on g (drop 1 r) back (Some h)))
      go h on is =
          let same : record { node = far; fibre = fibre_at t p (suc i) } ≡ h = (cc (is, on)) in
          subst (λ h. Fits (puts (with_phase Held g) (taken_on g (drop 1 r) back (Some h)))) same
          (let left = left-is h on in
          let leg = further small in
          record {
            light = rw its-own light-held;
            sends = rw weighs (less-plus_none _ (suc (length (drop 1 r))) _
                (sent-back o s (taken_mesh s from.0 at.0 (puts (with_phase Held g) (taken_on g (drop 1 r) back
                (Some (record { node = far; fibre = fibre_at t p (suc i) }))))) l g.lsp far leg.0 its
                (leg-there (without_first s from.0 at.0) at far g.lsp
                (puts (with_phase Held g) (taken_on g (drop 1 r) back
                (Some (record { node = far; fibre = fibre_at t p (suc i) }))))
                (distinct t l.ingress p route (suc (suc i)) (suc i) small (omega arith) (omega arith)))
                leg.1 at.0 g.egress (fibre_at t p (suc i)).link (drop 1 r) g.sent g.back_in work primary)
                (omega arith));
          })

  -- A Path that takes an activation back weighs more than what its leg sends, and nothing that stays gets heavier.
  pub taken_back-rests : Fits (path_with (local_node t at) (s.nodes at.0) (asks t s o back came) (Some g))
  taken_back-rests =
      if_cases Fits (is_active_backup g && is_over (previous g) from k) _ _
      (λ may. onward (following g) refl)
      (λ may. part-nothing o s l from at (path_message t s o back came) rest was (rw weighs (omega arith)))
