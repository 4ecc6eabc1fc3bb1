-- A message is taken: the leg of its LSP follows, and at the ingress the call does. The work falls.
use Rattle.std.proofs.Common.{◌≡◌, ◌≤◌, ◌<◌, ℕ, ◌+◌, Bool, true, false, cond, nat_eq, List, [], ◌∷◌, ◌++◌, refl, sym, ap, ◌∙◌, subst, arith}
use Rattle.std.specs.Prelude.{Option, Some, None}
use Rattle.ason_base.specs.{Network.Network, declared.ids.Lsp.Lsp, declared.ids.NodeId.NodeId, declared.steps.Step.Step, declared.messages.Msg.Msg, declared.messages.Msg.TheVariants.{Path, Resv, PathTear, PathErr, Notify}}
use Rattle.mesh_rules.specs.{Changes.{Answer, followed_by, nothing}, Events.{first_route, or_route}, LocalNodes.{LocalNode, local_node}, Machine.{Mesh, commit, without_first}, Messages.on_message, State.NodeState}
use Rattle.lsp_laws.specs.HopLaw.{is_message_of, is_notice, leg_at, lsp_of}
use Rattle.mesh_nodes.specs.Routes.{AreRowsOf}
use Rattle.mesh_nodes.proofs.LegList.{same_lsp-refl}
use Rattle.lsp_laws.proofs.{hops.Stepped.{first-append, grown}, hops.FollowedBy.commit-then, hops.InParts.{call_part, in-parts, leg_part}, hops.NoticesTold.notifies-begin_none, hops.NoticeRule.notice_only, hops.Paired.CallsMayPair, hops.Planned.{EachFollows, Follows, or_assoc, or_none}, hops.Own.own-leg_part, hops.Taken.mine, hops.TakenSteps.{CallsBackHere, after_leg}, hops.Traced.leg_follows}
use Rattle.mesh_laws.specs.{Weights.{FirstRoutes, weight}, Work.WorkIsWithin}
use Rattle.mesh_laws.proofs.{rest.CallRests.none-expand, rest.Expanded.{IsRouteKnown, known-of}, rest.LegRests.leg-rests, rest.TurnRests.AreShort, rest.CallLess.{CallLess, less-free, leg_sends}, rest.CallPays.{err_call, notice_call, resv_call}}

module _ (t : Network) (s : Mesh) (o : FirstRoutes) (d u : NodeId) (m : Msg) (rest : List Msg)
    (was : s.mail u.0 d.0 ≡ m ∷ rest) (learnt : AreRowsOf t (s.nodes d.0).learnt) (f : EachFollows t s o)
    (may : CallsMayPair t s o) (backs : CallsBackHere s) (short : AreShort o) where
  abbrev place : LocalNode
  place = local_node t d

  abbrev state : NodeState
  state = s.nodes d.0

  -- The call's part of any message costs less than what the leg's part leaves of it
  call-less : leg_sends t s o d u m < weight o s u.0 d.0 m → (n : Msg) → m ≡ n →
      CallLess t s o d u m (call_part place state u n)
  call-less pays = go
    where
      quiet : CallLess t s o d u m nothing
      quiet = less-free t s o d u m pays nothing (none-expand t (after_leg t s d u m) d o
          (leg_follows t s o d u m rest was learnt f may backs) short 0)

      go : (n : Msg) → m ≡ n → CallLess t s o d u m (call_part place state u n)
      go (Path l e k route set up r) is = quiet
      go (Resv l e k x) is =
          resv_call t s o d u m rest was learnt f may backs short pays l e k x is (leg_at s l d) refl
      go (PathTear l e k) is = quiet
      go (PathErr l e names gone code) is =
          err_call t s o d u m rest was learnt f may backs short pays l
          (record { lsp = l; msg = PathErr l e names gone code; removed = gone; code = code }) (leg_at s l d) refl
      go (Notify l e names k code) is =
          notice_call t s o d u m rest was learnt f may backs short pays l e names k code is (leg_at s l d) refl

  -- The routes

  leg-known : IsRouteKnown o (leg_part (local_node t d) (s.nodes d.0) u m)
  leg-known = by_kind (is_notice m) refl
    where
      known : is_notice m ≡ false → (h : Option (List Step)) → o (lsp_of m) ≡ h → Follows t s o (lsp_of m) h →
          IsRouteKnown o (leg_part (local_node t d) (s.nodes d.0) u m)
      known plain None is blank =
          let own : is_message_of (lsp_of m) m ≡ true = rw plain (same_lsp-refl (lsp_of m)) in
          let some = mine s (lsp_of m) u d m rest was own in
          absurd (let none = blank.mail u d in cc (none, some))
      known plain (Some route) is follow =
          known-of o (lsp_of m) route (leg_part (local_node t d) (s.nodes d.0) u m)
          (own-leg_part (local_node t d) (s.nodes d.0) u m plain).sent is

      by_kind : (b : Bool) → is_notice m ≡ b → IsRouteKnown o (leg_part (local_node t d) (s.nodes d.0) u m)
      by_kind true is_one = λ l.
          ap (or_route (o l)) (notifies-begin_none l (leg_part (local_node t d) (s.nodes d.0) u m).sent
          (notice_only (local_node t d) (s.nodes d.0) u m is_one).sent) ∙ or_none (o l)
      by_kind false plain = known plain (o (lsp_of m)) refl (f (lsp_of m))

  routes-then : (a b : Answer) → IsRouteKnown o a → grown d o b ≡ grown d o (followed_by a b)
  routes-then a b known = λ i l. each l (nat_eq d.0 l.ingress.0) i
    where
      each : (l : Lsp) (c : Bool) →
          or_route (o l) (first_route l (cond c b.sent [])) ≡ or_route (o l)
          (first_route l (cond c (a.sent ++ b.sent) []))
      each l true =
          sym (ap (or_route (o l)) (first-append l a.sent b.sent) ∙
          sym (or_assoc (o l) (first_route l a.sent) (first_route l b.sent)) ∙
          ap (λ x. or_route x (first_route l b.sent)) (known l))
      each l false = refl

  -- The work falls

  -- The work that is left when the message is taken is less, and the routes stay short.
  pub take-rests : (w : ℕ) → WorkIsWithin o s w → (left : ℕ) × WorkIsWithin (grown d o (on_message place state u m))
      (commit (without_first s u.0 d.0) d.0 (on_message place state u m)) left × (1 + left ≤ w) ×
      AreShort (grown d o (on_message place state u m))
  take-rests w within =
      let leg = leg-rests t s o u d f short m rest was w within in
      let call = call-less leg.pays m refl in
      let paid = leg.paid in
      let less = call.less in
      let a : Answer = leg_part (local_node t d) (s.nodes d.0) u m in
      let b : Answer = call_part (local_node t d) (s.nodes d.0) u m in (
        leg.left + call.more,
        subst (λ (x : Answer). WorkIsWithin (grown d o x) (commit (without_first s u.0 d.0) d.0 x)
            (leg.left + call.more))
            (sym (in-parts (local_node t d) (s.nodes d.0) u m))
            (subst (λ (x : FirstRoutes). WorkIsWithin x (commit (without_first s u.0 d.0) d.0 (followed_by a b))
            (leg.left + call.more))
            (routes-then a b leg-known)
            (subst (λ (x : Mesh). WorkIsWithin (grown d o b) x (leg.left + call.more))
            (sym (commit-then (without_first s u.0 d.0) d.0 a b)) (call.expands.grow leg.left leg.within))),
        omega (arith, paid, less),
        subst (λ (x : Answer). AreShort (grown d o x)) (sym (in-parts (local_node t d) (s.nodes d.0) u m))
            (subst AreShort (routes-then a b leg-known) (call.expands.short short)),
      )
