-- A Resv is taken at a node of its route: what the leg's part sends weighs less, and nothing that stays gets heavier.
use Rattle.std.proofs.Common.{◌≡◌, ◌≢◌, ◌≤◌, ◌<◌, ℕ, suc, ◌+◌, true, List, ◌∷◌, refl, ap, subst, arith}
use Rattle.std.specs.Prelude.{◌⊎◌, Option, Some, None}
use Rattle.mesh_rules.specs.{declared.limits.TheConstants.MOST_LINKS_OF_ROUTE, State.NodeState, Changes.{Answer, nothing, puts}, LocalNodes.{LocalNode, local_node}, Legs.{closed, connected, is_armed, is_asked, label_through, previous, with_phase}, Messages.arrival, Machine.{Mesh, without_first}, Activations.resv_to, Resvs.{is_expected, labels_left, label_passed, passed_back, torn_both_ways}, ActivationAnswers.is_confirmed}
use Rattle.ason_base.specs.{Lsps.same_lsp, Network.Network, declared.ids.Fibre.Fibre, declared.ids.Lsp.Lsp, declared.ids.NodeId.NodeId, declared.ids.LinkId.LinkId, declared.calls.Phase.TheVariants.{Asked, Armed, Live}, declared.messages.Msg.Msg, declared.messages.Msg.TheVariants.Resv, declared.tables.Leg.Leg}
use Rattle.lsp_laws.specs.{HopShapes.{ArmedLeg, FallingLeg, leg_kind}, HopLaw.{messages_of, leg_at, mail_between}}
use Rattle.mesh_nodes.proofs.{LegList.{same_lsp-refl, found-lsp}, Cases.if_cases, Phases.{armed-is, asked-is}}
use Rattle.lsp_laws.proofs.{hops.Plans.{Plan, hops, fibre_at, node_at, IsPlanRoute, distinct}, hops.AnswersTaken.armed_answers, hops.Purposes.{Purpose, purpose_role}, hops.Chain.{Chain, LegFitsPlan}, hops.InParts.{leg_of_resv, leg_answers, leg_confirmed}, hops.Views.leg-there, hops.Taken.ahead}
use Rattle.mesh_laws.specs.Weights.{FirstRoutes, hops_back, hops_in, weight, asked_weight, phase_weight, way}
use Rattle.mesh_laws.proofs.{rest.Committed.taken_mesh, rest.Places.place-is, rest.LegWeights.{path-still, resv-most, resv-marked, deaf-light, sent-resv, asked-less, asked-tears, PrevOf, prev-of, resv-some, closed-deaf, reserved-deaf, AtIngress, After}, rest.Near.{LightFor, Part, part-nothing, light-both}}
use Rattle.ason_base.proofs.{Bools.and-left, Numbers.less-plus_none}

module _ (t : Network) (q : Purpose) (s : Mesh) (l : Lsp) (p : Plan) (i : ℕ) (route : IsPlanRoute t l.ingress p)
    (chain : Chain t q l p (leg_at s l) (mail_between s l)) (below : i < hops p)
    (e : NodeId) (k : LinkId) (x : ℕ) (rest : List Msg)
    (was : s.mail (node_at p (suc i)).0 (node_at p i).0 ≡ Resv l e k x ∷ rest)
    (o : FirstRoutes) (known : o l ≡ Some p.route) (short : hops p ≤ MOST_LINKS_OF_ROUTE) where
  open ahead t s p i use {u as at, d as from}

  abbrev place : LocalNode
  place = local_node t at

  abbrev state : NodeState
  state = s.nodes at.0

  abbrev message : Msg
  message = Resv l e k x

  abbrev IsPart : Answer → Type 0
  IsPart a = Part o s l from at message rest was a

  back-is : (j : ℕ) → j ≤ hops p → hops_back o l (node_at p j).0 ≡ j
  back-is j small = rw known (place-is t l.ingress p route j small)

  long-is : hops_in (o l) ≡ hops p
  long-is = ap hops_in known

  unchanged : IsPart nothing
  unchanged = part-nothing o s l from at message rest was (resv-some (leg_at s l at) (hops_back o l at.0))

  module _ (g : Leg) (here : leg_at s l (node_at p i) ≡ Some g) where
    own : g.lsp ≡ l
    own = found-lsp l state.legs g here

    mine : same_lsp g.lsp l ≡ true
    mine = rw own (same_lsp-refl l)

    fits : LegFitsPlan t q l p i g
    fits = rw here at (chain.fits i (omega arith))

    -- a leg that takes no Resv any more
    light-deaf : (h : Leg) → ((n : ℕ) → phase_weight h.phase h.role n ≡ 1) → (x : ℕ) →
        LightFor (leg_at s l at) (Some h) (messages_of l ((without_first s from.0 at.0).mail x at.0))
    light-deaf h deaf x = light-both _ _ _ (rw here (λ r n. path-still r g h n)) (deaf-light (leg_at s l at) h deaf)

    away : (j : ℕ) → suc j ≡ i → (node_at p j).0 ≢ (node_at p i).0
    away j is = distinct t l.ingress p route j i (omega arith) (omega arith) (omega arith)

    asked-weighs : g.phase ≡ Asked → weight o s from.0 at.0 message ≡ asked_weight (purpose_role q) (suc i)
    asked-weighs asked = rw (here, asked, fits.role, back-is i (omega arith)) refl

    armed-weighs : g.phase ≡ Armed → weight o s from.0 at.0 message ≡ suc i + way
    armed-weighs armed = rw (here, armed, back-is i (omega arith)) refl

    some : 0 < weight o s from.0 at.0 message
    some = resv-some (leg_at s l at) (hops_back o l at.0)

    -- The Asked leg has its label, or closes

    passes : g.phase ≡ Asked → (j : ℕ) → suc j ≡ i → (f : Fibre) (y : ℕ) →
        IsPart (label_passed g (record { node = node_at p j; fibre = f }) x y)
    passes asked j is f y = record {
      light = rw mine (light-deaf (connected g (Some y) x) (reserved-deaf g.role));
      sends = rw (asked-weighs asked)
          (less-plus_none _ (asked_weight (purpose_role q) (suc j)) _
          (sent-resv o s (taken_mesh s from.0 at.0 (label_passed g (record { node = node_at p j; fibre = f }) x y)) l
          g.lsp (node_at p j) (asked_weight (purpose_role q) (suc j)) own
          (leg-there (without_first s from.0 at.0) at (node_at p j) g.lsp
          (label_passed g (record { node = node_at p j; fibre = f }) x y) (away j is))
          (rw (back-is j (omega arith)) (resv-most t q l p j (leg_at s l (node_at p j)) j (chain.fits j (omega arith))))
          at.0 g.egress f.link y)
          (subst (λ (n : ℕ). asked_weight (purpose_role q) (suc j) < asked_weight (purpose_role q) (suc n)) is
          (asked-less (purpose_role q) j)));
    }

    tears : g.phase ≡ Asked → (j : ℕ) → suc j ≡ i → (f : Fibre) →
        IsPart (torn_both_ways place (arrival l e from k) g (record { node = node_at p j; fibre = f }))
    tears asked j is f =
        let a = back-is i (omega arith) in
        let b = back-is j (omega arith) in
        record {
          light = rw mine (light-deaf (closed g) (closed-deaf g.phase g.role));
          sends = rw (
            asked-weighs asked,
            own,
            a,
            b,
            long-is,
          ) (asked-tears (purpose_role q) (hops p) i j is below short);
        }

    passed : g.phase ≡ Asked → (j : ℕ) → suc j ≡ i → (f : Fibre) (y : Option ℕ) →
        IsPart (passed_back place (arrival l e from k) g (record { node = node_at p j; fibre = f }) x y)
    passed asked j is f None = tears asked j is f
    passed asked j is f (Some y) = passes asked j is f y

    answers : g.phase ≡ Asked → PrevOf t p i g → IsPart (leg_answers place state (arrival l e from k) x g (previous g))
    answers asked (AtIngress first) = rw first
        (record { light = rw mine (light-deaf (connected g None x) (reserved-deaf g.role)); sends = some })
    answers asked (After j is prev) = rw prev (passed asked j is (fibre_at t p j) (label_through place
        (labels_left place state g (record { node = node_at p j; fibre = fibre_at t p j })) x))

    -- The Armed leg is Live

    marked : g.phase ≡ Armed → (j : ℕ) → suc j ≡ i →
        (leg_kind (leg_at s l (node_at p j)) ≡ ArmedLeg) ⊎ (leg_kind (leg_at s l (node_at p j)) ≡ FallingLeg)
    marked armed j is =
        let there : leg_at s l (node_at p (suc j)) ≡ Some g = rw is here in
        (armed_answers (purpose_role q) _ _ _ (rw (there, armed) at (chain.each j (omega arith)).shape)).marked

    goes-back : g.phase ≡ Armed → (j : ℕ) → suc j ≡ i → (f : Fibre) (y : Option ℕ) →
        IsPart (puts (with_phase Live g) (resv_to g (Some (record { node = node_at p j; fibre = f })) y))
    goes-back armed j is f None = record { light = rw mine (light-deaf (with_phase Live g) (λ n. refl)); sends = some }
    goes-back armed j is f (Some y) = record {
      light = rw mine (light-deaf (with_phase Live g) (λ n. refl));
      sends = rw (armed-weighs armed)
          (less-plus_none _ (suc j + way) _
          (sent-resv o s (taken_mesh s from.0 at.0
          (puts (with_phase Live g) (resv_to g (Some (record { node = node_at p j; fibre = f })) (Some y)))) l
          g.lsp (node_at p j) (suc j + way) own
          (leg-there (without_first s from.0 at.0) at (node_at p j) g.lsp
          (puts (with_phase Live g) (resv_to g (Some (record { node = node_at p j; fibre = f })) (Some y))) (away j is))
          (rw (back-is j (omega arith)) (resv-marked (leg_at s l (node_at p j)) j (marked armed j is)))
          at.0 g.egress f.link y)
          (omega arith));
    }

    confirms : g.phase ≡ Armed → PrevOf t p i g → IsPart (leg_confirmed g (previous g))
    confirms armed (AtIngress first) = rw first
        (record { light = rw mine (light-deaf (with_phase Live g) (λ n. refl)); sends = some })
    confirms armed (After j is prev) = rw prev (goes-back armed j is (fibre_at t p j) g.in_label)

    with-leg : IsPart (leg_of_resv place state (arrival l e from k) x (Some g))
    with-leg =
        if_cases IsPart (is_expected (arrival l e from k) x g) _ _
        (λ may. answers (asked-is g.phase (and-left (is_asked g.phase) _ may)) (prev-of t q l p i g fits))
        (λ other. if_cases IsPart (is_confirmed (arrival l e from k) x g) _ _
        (λ may. confirms (armed-is g.phase (and-left (is_armed g.phase) _ may)) (prev-of t q l p i g fits))
        (λ none. unchanged))

  -- A Resv weighs more than what its leg sends, and nothing that stays gets heavier.
  pub resv-rests : (h : Option Leg) → leg_at s l (node_at p i) ≡ h →
      IsPart (leg_of_resv (local_node t (node_at p i)) (s.nodes (node_at p i).0)
      (arrival l e (node_at p (suc i)) k) x h)
  resv-rests None here = unchanged
  resv-rests (Some g) here = with-leg g here
