-- A PathErr is taken at a node of its route: what the leg's part sends weighs less, and nothing that stays gets
-- heavier.
use Rattle.std.proofs.Common.{◌≡◌, ◌≤◌, ◌<◌, ℕ, suc, ◌+◌, Bool, true, false, List, ◌∷◌, refl, arith}
use Rattle.std.specs.Prelude.{Option, Some, None}
use Rattle.ason_base.specs.{Lsps.same_lsp, Network.Network, declared.codes.ErrCode.ErrCode, declared.ids.Lsp.Lsp, declared.ids.NodeId.NodeId, declared.calls.Phase.TheVariants.{Asked, Held}, declared.messages.Msg.Msg, declared.messages.Msg.TheVariants.PathErr, declared.tables.Leg.Leg}
use Rattle.mesh_rules.specs.{Changes.{Answer, nothing}, Legs.{following, is_armed, is_asked, is_closing, is_node, previous, with_phase}, Machine.{Mesh, without_first}, PathErrs.PathFailure}
use Rattle.lsp_laws.specs.HopLaw.{messages_of, leg_at, mail_between}
use Rattle.mesh_nodes.proofs.{LegList.{same_lsp-refl, found-lsp}, Cases.if_cases, Phases.asked-is}
use Rattle.lsp_laws.proofs.{hops.Plans.{Plan, hops, node_at, IsPlanRoute}, hops.AnswersTaken.{asked_answers, torn_leaves}, hops.Purposes.{Purpose, purpose_role, has_path}, hops.IdleHops.no_path_down, hops.Chain.{Chain, LegFitsPlan, ChainHop}, hops.LegChanges.torn_of, hops.InParts.{leg_of_err, leg_failed, leg_removed, leg_refused, leg_disarmed}, hops.Taken.{ahead, up_hop}}
use Rattle.mesh_laws.specs.Weights.{FirstRoutes, hops_back}
use Rattle.mesh_laws.proofs.{rest.Places.place-is, rest.RowKinds.{no-way_up, path-kinds}, rest.LegWeights.{path-still, deaf-light, PrevOf, prev-of, resv-some, AtIngress, After}, rest.Near.{LightFor, Part, part-nothing, light-empty, light-both, light-no_path, near-up}}

module _ (t : Network) (q : Purpose) (s : Mesh) (l : Lsp) (p : Plan) (i : ℕ) (route : IsPlanRoute t l.ingress p)
    (chain : Chain t q l p (leg_at s l) (mail_between s l)) (below : i < hops p)
    (e names : NodeId) (gone : Bool) (code : ErrCode) (rest : List Msg)
    (was : s.mail (node_at p (suc i)).0 (node_at p i).0 ≡ PathErr l e names gone code ∷ rest)
    (o : FirstRoutes) (known : o l ≡ Some p.route) where
  open ahead t s p i use {u as at, d as from}

  abbrev message : Msg
  message = PathErr l e names gone code

  abbrev failure : PathFailure
  failure = record { lsp = l; msg = message; removed = gone; code = code }

  abbrev IsPart : Answer → Type 0
  IsPart a = Part o s l from at message rest was a

  back-is : (j : ℕ) → j ≤ hops p → hops_back o l (node_at p j).0 ≡ j
  back-is j small = rw known (place-is t l.ingress p route j small)

  unchanged : IsPart nothing
  unchanged = part-nothing o s l from at message rest was (omega arith)

  hop : ChainHop q p i (leg_at s l at) (leg_at s l from) (mail_between s l at from) (message ∷ messages_of l rest)
  hop = up_hop t q s l p i route chain below message rest was (same_lsp-refl l)

  -- what is passed back
  back-less : (j : ℕ) → suc j ≡ i → suc (hops_back o l (node_at p j).0) + 0 < suc (hops_back o l (node_at p i).0)
  back-less j is =
      let a = back-is i (omega arith) in
      let b = back-is j (omega arith) in
      rw (a, b) (omega arith)

  module _ (g : Leg) (here : leg_at s l (node_at p i) ≡ Some g) where
    mine : same_lsp g.lsp l ≡ true
    mine = rw (found-lsp l (s.nodes at.0).legs g here) (same_lsp-refl l)

    fits : LegFitsPlan t q l p i g
    fits = rw here at (chain.fits i (omega arith))

    light-gone : ((j : ℕ) → suc j ≡ i → has_path (mail_between s l (node_at p j) at) ≡ false) → (x : ℕ) →
        LightFor (leg_at s l at) None (messages_of l ((without_first s from.0 at.0).mail x at.0))
    light-gone none x = near-up t q s l p i route chain below message rest was (LightFor (leg_at s l at) None)
        (light-empty _ _)
        (light-no_path _ _ _ (path-kinds (message ∷ messages_of l rest) (no-way_up (purpose_role q) _ _ _ _ hop.shape))
        (resv-some (leg_at s l at)))
        (λ j is. light-no_path _ _ _ (none j is) (resv-some (leg_at s l at))) x

    asked-none : g.phase ≡ Asked → (j : ℕ) → suc j ≡ i → has_path (mail_between s l (node_at p j) at) ≡ false
    asked-none asked j is =
        let there : leg_at s l (node_at p (suc j)) ≡ Some g = rw is here in
        let none = no_path_down (mail_between s l (node_at p j) (node_at p (suc j)))
        (asked_answers (purpose_role q) _ _ _ (rw (there, asked) at (chain.each j (omega arith)).shape)).down_is in
        rw is at none

    torn-none : is_closing g.phase ≡ true → (j : ℕ) → suc j ≡ i → has_path (mail_between s l (node_at p j) at) ≡ false
    torn-none torn j is =
        let there : leg_at s l (node_at p (suc j)) ≡ Some g = rw is here in
        let none = no_path_down (mail_between s l (node_at p j) (node_at p (suc j)))
        (torn_leaves (purpose_role q) _ _ _ _ (torn_of t q l p i g fits torn)
        (rw there at (chain.each j (omega arith)).shape)).down_is in
        rw is at none

    refused : g.phase ≡ Asked → PrevOf t p i g → IsPart (leg_refused g failure (previous g))
    refused asked (AtIngress first) = rw first
        (record { light = rw mine (light-gone (asked-none asked)); sends = omega arith })
    refused asked (After j is prev) = rw prev
        (record { light = rw mine (light-gone (asked-none asked)); sends = back-less j is })

    removed : IsPart (leg_removed g failure)
    removed =
        if_cases IsPart (is_asked g.phase) _ _
        (λ asked. refused (asked-is g.phase asked) (prev-of t q l p i g fits))
        (λ other. if_cases IsPart (is_closing g.phase) _ _
        (λ torn. record { light = rw mine (light-gone (torn-none torn)); sends = omega arith })
        (λ none. unchanged))

    light-held : (x : ℕ) →
        LightFor (leg_at s l at) (Some (with_phase Held g)) (messages_of l ((without_first s from.0 at.0).mail x at.0))
    light-held x = light-both _ _ _ (rw here (λ r n. path-still r g (with_phase Held g) n))
        (deaf-light (leg_at s l at) (with_phase Held g) (λ n. refl))

    disarmed : PrevOf t p i g → IsPart (leg_disarmed g message (previous g))
    disarmed (AtIngress first) = rw first (record { light = rw mine light-held; sends = omega arith })
    disarmed (After j is prev) = rw prev (record { light = rw mine light-held; sends = back-less j is })

    failed : IsPart (leg_failed g failure)
    failed =
        if_cases IsPart gone _ _ (λ r. removed)
        (λ r. if_cases IsPart (is_armed g.phase) _ _ (λ a. disarmed (prev-of t q l p i g fits)) (λ a. unchanged))

  -- A PathErr weighs more than what its leg sends, and nothing that stays gets heavier.
  pub err-rests : (h : Option Leg) → leg_at s l (node_at p i) ≡ h → IsPart (leg_of_err (node_at p (suc i)) failure h)
  err-rests None here = unchanged
  err-rests (Some g) here =
      if_cases IsPart (is_node (following g) (node_at p (suc i))) _ _ (λ e. failed g here) (λ e. unchanged)
