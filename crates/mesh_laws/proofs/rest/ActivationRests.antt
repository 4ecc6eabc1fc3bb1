-- A Path that activates a backup: what it sends weighs less, and nothing that stays gets heavier.
use Rattle.std.proofs.Common.{◌≡◌, ◌<◌, ℕ, suc, ◌+◌, true, List, [], ◌∷◌, drop, refl, arith}
use Rattle.std.specs.Prelude.{◌&&◌, Option, Some, None}
use Rattle.ason_base.specs.{Network.Network, declared.steps.Step.Step, declared.calls.Phase.TheVariants.{Armed, Held, Live}, declared.messages.PathRole.PathRole, declared.messages.PathRole.TheVariants.Back, declared.tables.Leg.Leg}
use Rattle.mesh_rules.specs.{declared.neighbours.Neighbour.Neighbour, Changes.{Answer, nothing, sends, puts}, LocalNodes.local_node, Legs.{following, is_contended, is_held, is_over, previous, with_phase}, Machine.{Mesh, without_first}, Paths.path_with, Activations.{armed_on, busy_to, resv_to}}
use Rattle.lsp_laws.specs.HopLaw.{messages_of, leg_at, mail_between}
use Rattle.mesh_nodes.proofs.{Cases.if_cases, Phases.held-is}
use Rattle.lsp_laws.proofs.{hops.Plans.{hops, fibre_at, node_at, distinct}, hops.PathTaken.active_taken, hops.Purposes.purpose_role, hops.IdleHops.no_kinds, hops.LegChanges.previous_is, hops.Views.leg-there, hops.Taken.ahead}
use Rattle.mesh_laws.specs.Weights.{FirstRoutes, way}
use Rattle.mesh_laws.proofs.{rest.Committed.taken_mesh, rest.RowKinds.held-none_up, rest.LegWeights.{path-still, resv-marked, deaf-light, sent-resv}, rest.Near.{LightFor, part-nothing, light-empty, light-both, light-same, light-no_resv, near-down}, rest.PathCame.{IsPart, PathCame, asks, leg-stands, path_message}}
use Rattle.ason_base.proofs.{Bools.and-left, Numbers.less-plus_none}

module _ (t : Network) (s : Mesh) (o : FirstRoutes) (work : ℕ) (primary : List Step)
    (came : PathCame t s o (Back true work primary)) (g : Leg)
    (here : leg_at s came.l (node_at came.p (suc came.i)) ≡ Some g) where
  abbrev role : PathRole
  role = Back true work primary

  open came use {q, l, p, i, planned.{route, chain}, below, k, r, rest, was}
  open ahead t s p i use {u, d, next}
  open leg-stands t s o role came g here use {its, its-own, leg-fits, this-hop, no-resv, left-is, a-back}

  abbrev Fits : Answer → Type 0
  Fits = IsPart t s o role came

  unchanged : Fits nothing
  unchanged = part-nothing o s l u d (path_message t s o role came) rest was (omega arith)

  refuses : Fits (sends (busy_to (local_node t d) g u ∷ []))
  refuses = record { light = λ x. light-same _ _ _ refl; sends = rw (its, a-back) (omega arith) }

  light-live : (x : ℕ) → LightFor (leg_at s l d) (Some (with_phase Live g))
      (messages_of l ((without_first s u.0 d.0).mail x d.0))
  light-live x = light-both _ _ _
      (rw here (λ r k. path-still r g (with_phase Live g) k))
      (deaf-light (leg_at s l d) (with_phase Live g) (λ k. refl))

  light-armed : g.phase ≡ Held → (x : ℕ) →
      LightFor (leg_at s l d) (Some (with_phase Armed g)) (messages_of l ((without_first s u.0 d.0).mail x d.0))
  light-armed held x = rw here (near-down t q s l p i route chain below (path_message t s o role came) rest was
      (LightFor (Some g) (Some (with_phase Armed g))) (light-empty _ _)
      (light-no_resv _ _ _ (λ r k. path-still r g (with_phase Armed g) k) no-resv)
      (λ small. rw (quiet small) (light-empty _ _)) x)
    where
      quiet : suc i < hops p → mail_between s l next d ≡ []
      quiet small = no_kinds (mail_between s l next d)
          (held-none_up (purpose_role q) _ _ _ (rw (here, held) at (chain.each (suc i) small).shape))

  ends : (x : Option ℕ) → Fits (puts (with_phase Live g)
      (resv_to g (Some (record { node = u; fibre = fibre_at t p i })) x))
  ends None = record { light = rw its-own light-live; sends = omega arith }
  ends (Some x) =
      let most = resv-marked (leg_at s l u) i (active_taken (purpose_role q) _ _ _ _ this-hop.shape).marked in
      record {
        light = rw its-own light-live;
        sends =
            less-plus_none _ (suc i + way) _
            (sent-resv o s (taken_mesh s u.0 d.0 (puts (with_phase Live g)
            (resv_to g (Some (record { node = u; fibre = fibre_at t p i })) (Some x)))) l g.lsp u (suc i + way) its
            (leg-there (without_first s u.0 d.0) d u g.lsp (puts (with_phase Live g)
            (resv_to g (Some (record { node = u; fibre = fibre_at t p i })) (Some x)))
            (distinct t l.ingress p route i (suc i) (omega arith) (omega arith) (omega arith)))
            (rw a-back most) d.0 g.egress (fibre_at t p i).link x) (omega arith);
      }

  onward : g.phase ≡ Held → (h : Option Neighbour) → following g ≡ h → Fits (armed_on g (drop 1 r) role h)
  onward held None on = rw (previous_is t q l p i g leg-fits) (ends g.in_label)
  onward held (Some h) on =
      let left = left-is h on in
      record { light = rw its-own (light-armed held); sends = omega arith }

  -- A Path that activates a backup weighs more than what its leg sends, and nothing that stays gets heavier.
  pub activation-rests : Fits (path_with (local_node t d) (s.nodes d.0) (asks t s o role came) (Some g))
  activation-rests =
      if_cases Fits (is_held g.phase && is_over (previous g) u k) _ _
      (λ may. if_cases Fits (is_contended (s.nodes d.0).legs g) _ _ (λ c. refuses)
      (λ c. onward (held-is g.phase (and-left (is_held g.phase) _ may)) (following g) refl))
      (λ may. unchanged)
