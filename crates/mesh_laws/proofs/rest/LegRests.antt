-- A message is taken and the leg of its LSP follows: whatever the message is, what is sent weighs less.
use Rattle.std.proofs.Common.{◌≡◌, ◌≤◌, ◌<◌, ℕ, suc, ◌+◌, true, false, List, [], ◌∷◌, refl, sym, subst, arith, inl, inr}
use Rattle.std.specs.Prelude.{◌⊎◌, Option, Some, None}
use Rattle.mesh_rules.specs.{declared.limits.TheConstants.MOST_LINKS_OF_ROUTE, LocalNodes.{local_node, own_link}, Machine.Mesh, Messages.arrival, Paths.path_with}
use Rattle.ason_base.specs.{Network.Network, declared.ids.Lsp.Lsp, declared.ids.NodeId.NodeId, declared.ids.LinkId.LinkId, declared.codes.ErrCode.ErrCode, declared.steps.Step.Step, declared.messages.PathRole.PathRole, declared.messages.PathRole.TheVariants.{Work, Back}, declared.messages.Msg.Msg, declared.messages.Msg.TheVariants.{Path, Resv, PathTear, PathErr, Notify}, declared.tables.Leg.Leg}
use Rattle.ason_base.proofs.JoinedEnds.{same-node}
use Rattle.lsp_laws.specs.HopLaw.{is_message_of, is_notice, leg_at, lsp_of, mail_between, messages_of, notices_between, notices_of}
use Rattle.mesh_nodes.proofs.LegList.{same_lsp-refl}
use Rattle.lsp_laws.proofs.{hops.Chain.OnRoute, hops.InParts.leg_part, hops.Notices.ComesUp, hops.Own.{Own, own-leg_part}, hops.Planned.{EachFollows, Follows, Planned}, hops.Plans.{Plan, hops, node_at, plan}, hops.Purposes.{Purpose, purpose_role}, hops.Rows.{no_resv_down, no_removal_down, no_contention_down, no_path_up, no_active_up, no_tear_up}, hops.Taken.{down_hop, mine, up_hop}}
use Rattle.mesh_laws.specs.{Weights.{FirstRoutes, weight}, Work.WorkIsWithin}
use Rattle.mesh_laws.proofs.{rest.Committed.{sent_weight, taken_mesh}, rest.Near.{Part, part-lightens, part-nothing}, rest.ActivationRests.activation-rests, rest.ErrRests.err-rests, rest.NoticeRests.notice-rests, rest.PathCame.PathCame, rest.PathRests.first, rest.ResvRests.resv-rests, rest.TakenBackRests.taken_back-rests, rest.TearRests.tear-part, rest.TurnRests.AreShort}

-- after the leg's part so much work is left
pub record LegRests (t : Network) (s : Mesh) (o : FirstRoutes) (u d : NodeId) (m : Msg) (w : ℕ) : Type 0 where
  pub left : ℕ
  pub within : WorkIsWithin o (taken_mesh s u.0 d.0 (leg_part (local_node t d) (s.nodes d.0) u m)) left
  pub paid : left + weight o s u.0 d.0 m ≡
      w + sent_weight (weight o (taken_mesh s u.0 d.0 (leg_part (local_node t d) (s.nodes d.0) u m)) d.0)
      (leg_part (local_node t d) (s.nodes d.0) u m).sent
  pub pays : sent_weight (weight o (taken_mesh s u.0 d.0 (leg_part (local_node t d) (s.nodes d.0) u m)) d.0)
      (leg_part (local_node t d) (s.nodes d.0) u m).sent < weight o s u.0 d.0 m

module _ (t : Network) (s : Mesh) (o : FirstRoutes) (q : Purpose) (rest : List Msg) (p : Plan) (i : ℕ)
    (below : i < hops p)
    (short : hops p ≤ MOST_LINKS_OF_ROUTE) where
  down-part : (m : Msg) (own : is_message_of (lsp_of m) m ≡ true)
      (was : s.mail (node_at p i).0 (node_at p (suc i)).0 ≡ m ∷ rest)
      (pl : Planned t s o (lsp_of m) q p) → o (lsp_of m) ≡ Some p.route →
      Part o s (lsp_of m) (node_at p i) (node_at p (suc i)) m rest was
      (leg_part (local_node t (node_at p (suc i))) (s.nodes (node_at p (suc i)).0) (node_at p i) m)
  down-part (Path l e k r set label role) own was pl known =
      by_leg role was (leg_at s l (node_at p (suc i))) refl
    where
      came : (role : PathRole) →
          s.mail (node_at p i).0 (node_at p (suc i)).0 ≡ Path l e k r set label role ∷ rest → PathCame t s o role
      came role was = record {
        q = q;
        l = l;
        p = p;
        i = i;
        planned = pl;
        below = below;
        e = e;
        k = k;
        r = r;
        set = set;
        label = label;
        rest = rest;
        was = was;
        known = known;
        short = short;
      }

      by_leg : (role : PathRole) (was : s.mail (node_at p i).0 (node_at p (suc i)).0 ≡ Path l e k r set label
          role ∷ rest)
          (h : Option Leg) → leg_at s l (node_at p (suc i)) ≡ h →
          Part o s l (node_at p i) (node_at p (suc i)) (Path l e k r set label role) rest was
          (path_with (local_node t (node_at p (suc i))) (s.nodes (node_at p (suc i)).0)
          (record { arrival = arrival l e (node_at p i) k; route = r; set = set; upstream = label; role = role }) h)
      by_leg role was None here =
          first t q s l p i pl.route pl.chain below e k r set label role rest was o known short here
          (own_link (local_node t (node_at p (suc i))) k)
      by_leg (Work guard) was (Some g) here =
          part-nothing o s l (node_at p i) (node_at p (suc i)) (Path l e k r set label (Work guard)) rest was
          (omega arith)
      by_leg (Back true work primary) was (Some g) here =
          activation-rests t s o work primary (came (Back true work primary) was) g here
      by_leg (Back false work primary) was (Some g) here =
          taken_back-rests t s o work primary (came (Back false work primary) was) g here
  down-part (Resv l e k x) own was pl known =
      absurd (no_resv_down (purpose_role q) _ _ _ _
      (down_hop t q s l p i pl.route pl.chain below (Resv l e k x) rest was own).shape)
  down-part (PathTear l e k) own was pl known =
      tear-part t q s l p i pl.route pl.chain below e k rest was o known short
  down-part (PathErr l e at true code) own was pl known =
      absurd (no_removal_down (purpose_role q) _ _ _ _
      (down_hop t q s l p i pl.route pl.chain below (PathErr l e at true code) rest was own).shape)
  down-part (PathErr l e at false code) own was pl known =
      absurd (no_contention_down (purpose_role q) _ _ _ _
      (down_hop t q s l p i pl.route pl.chain below (PathErr l e at false code) rest was own).shape)
  down-part (Notify l e at k code) own was pl known = absurd (cc own)

  up-part : (m : Msg) (own : is_message_of (lsp_of m) m ≡ true)
      (was : s.mail (node_at p (suc i)).0 (node_at p i).0 ≡ m ∷ rest)
      (pl : Planned t s o (lsp_of m) q p) → o (lsp_of m) ≡ Some p.route →
      Part o s (lsp_of m) (node_at p (suc i)) (node_at p i) m rest was
      (leg_part (local_node t (node_at p i)) (s.nodes (node_at p i).0) (node_at p (suc i)) m)
  up-part (Path l e k r set label (Work guard)) own was pl known =
      absurd (no_path_up (purpose_role q) _ _ _ _
      (up_hop t q s l p i pl.route pl.chain below (Path l e k r set label (Work guard)) rest was own).shape)
  up-part (Path l e k r set label (Back true work primary)) own was pl known =
      absurd (no_active_up (purpose_role q) _ _ _ _
      (up_hop t q s l p i pl.route pl.chain below (Path l e k r set label (Back true work primary)) rest was own).shape)
  up-part (Path l e k r set label (Back false work primary)) own was pl known =
      absurd (no_path_up (purpose_role q) _ _ _ _
      (up_hop t q s l p i pl.route pl.chain below (Path l e k r set label (Back false work primary)) rest was
      own).shape)
  up-part (Resv l e k x) own was pl known =
      resv-rests t q s l p i pl.route pl.chain below e k x rest was o known short (leg_at s l (node_at p i)) refl
  up-part (PathTear l e k) own was pl known =
      absurd (no_tear_up (purpose_role q) _ _ _ _
      (up_hop t q s l p i pl.route pl.chain below (PathTear l e k) rest was own).shape)
  up-part (PathErr l e at gone code) own was pl known =
      err-rests t q s l p i pl.route pl.chain below e at gone code rest was o known (leg_at s l (node_at p i)) refl
  up-part (Notify l e at k code) own was pl known = absurd (cc own)

-- two nodes, written otherwise
module _ (t : Network) (s : Mesh) (o : FirstRoutes) where
  moved : (u d u' d' : NodeId) → u' ≡ u → d' ≡ d → (m : Msg) (rest : List Msg) →
      ((was : s.mail u'.0 d'.0 ≡ m ∷ rest) →
      Part o s (lsp_of m) u' d' m rest was (leg_part (local_node t d') (s.nodes d'.0) u' m)) →
      (was : s.mail u.0 d.0 ≡ m ∷ rest) →
      Part o s (lsp_of m) u d m rest was (leg_part (local_node t d) (s.nodes d.0) u m)
  moved u d u' d' at_u at_d m rest =
      subst (λ (y : NodeId). ((was : s.mail u'.0 d'.0 ≡ m ∷ rest) →
      Part o s (lsp_of m) u' d' m rest was (leg_part (local_node t d') (s.nodes d'.0) u' m)) →
      (was : s.mail u.0 y.0 ≡ m ∷ rest) →
      Part o s (lsp_of m) u y m rest was (leg_part (local_node t y) (s.nodes y.0) u m)) at_d
      (subst (λ (x : NodeId). ((was : s.mail u'.0 d'.0 ≡ m ∷ rest) →
      Part o s (lsp_of m) u' d' m rest was (leg_part (local_node t d') (s.nodes d'.0) u' m)) →
      (was : s.mail x.0 d'.0 ≡ m ∷ rest) →
      Part o s (lsp_of m) x d' m rest was (leg_part (local_node t d') (s.nodes d'.0) x m)) at_u (λ same. same))

  moved-rests : (u d u' d' : NodeId) → u' ≡ u → d' ≡ d → (m : Msg) (rest : List Msg) (w : ℕ) →
      (s.mail u'.0 d'.0 ≡ m ∷ rest → LegRests t s o u' d' m w) → s.mail u.0 d.0 ≡ m ∷ rest → LegRests t s o u d m w
  moved-rests u d u' d' at_u at_d m rest w =
      subst (λ (y : NodeId). (s.mail u'.0 d'.0 ≡ m ∷ rest → LegRests t s o u' d' m w) → s.mail u.0 y.0 ≡ m ∷ rest →
      LegRests t s o u y m w) at_d
      (subst (λ (x : NodeId). (s.mail u'.0 d'.0 ≡ m ∷ rest → LegRests t s o u' d' m w) → s.mail x.0 d'.0 ≡ m ∷ rest →
      LegRests t s o x d' m w) at_u (λ same. same))

module _ (t : Network) (s : Mesh) (o : FirstRoutes) (u d : NodeId) (f : EachFollows t s o) (short : AreShort o) where
  part-rests : (m : Msg) (rest : List Msg) (was : s.mail u.0 d.0 ≡ m ∷ rest) → is_notice m ≡ false →
      Part o s (lsp_of m) u d m rest was (leg_part (local_node t d) (s.nodes d.0) u m) → (w : ℕ) → WorkIsWithin o s w →
      LegRests t s o u d m w
  part-rests m rest was plain part w within =
      let own : Own (lsp_of m) (leg_part (local_node t d) (s.nodes d.0) u m) =
      own-leg_part (local_node t d) (s.nodes d.0) u m plain in
      let h = part-lightens o s (lsp_of m) u d m rest was (leg_part (local_node t d) (s.nodes d.0) u m)
      (record { legs = own.legs; sent = own.sent }) part w within in
      record { left = h.0; within = h.1; paid = h.2; pays = part.sends }

  on-route : (m : Msg) (rest : List Msg) (was : s.mail u.0 d.0 ≡ m ∷ rest) → is_message_of (lsp_of m) m ≡ true →
      (q : Purpose) (p : Plan) → Planned t s o (lsp_of m) q p → o (lsp_of m) ≡ Some p.route →
      hops p ≤ MOST_LINKS_OF_ROUTE →
      (mail_between s (lsp_of m) u d ≡ []) ⊎ OnRoute p u d →
      Part o s (lsp_of m) u d m rest was (leg_part (local_node t d) (s.nodes d.0) u m)
  on-route m rest was own q p pl known small (inl none) =
      let some : mail_between s (lsp_of m) u d ≡ m ∷ messages_of (lsp_of m) rest =
      mine s (lsp_of m) u d m rest was own in
      absurd (cc (none, some))
  on-route m rest was own q p pl known small (inr (i, below, inl (at_u, at_d))) =
      let u_is = same-node u (node_at p i) at_u in
      let d_is = same-node d (node_at p (suc i)) at_d in
      moved t s o u d (node_at p i) (node_at p (suc i)) (sym u_is) (sym d_is) m rest
      (λ is. down-part t s o q rest p i below small m own is pl known) was
  on-route m rest was own q p pl known small (inr (i, below, inr (at_u, at_d))) =
      let u_is = same-node u (node_at p (suc i)) at_u in
      let d_is = same-node d (node_at p i) at_d in
      moved t s o u d (node_at p (suc i)) (node_at p i) (sym u_is) (sym d_is) m rest
      (λ is. up-part t s o q rest p i below small m own is pl known) was

  follows-part : (m : Msg) (rest : List Msg) (was : s.mail u.0 d.0 ≡ m ∷ rest) → is_message_of (lsp_of m) m ≡ true →
      (h : Option (List Step)) → o (lsp_of m) ≡ h → Follows t s o (lsp_of m) h →
      Part o s (lsp_of m) u d m rest was (leg_part (local_node t d) (s.nodes d.0) u m)
  follows-part m rest was own None is blank =
      let some : mail_between s (lsp_of m) u d ≡ m ∷ messages_of (lsp_of m) rest =
      mine s (lsp_of m) u d m rest was own in
      absurd (let none = blank.mail u d in cc (none, some))
  follows-part m rest was own (Some route) is (e, q, pl) =
      on-route m rest was own q (plan route e) pl is (short (lsp_of m) route is) (pl.chain.ways u d)

  -- a Notify
  notice-on : (l : Lsp) (e names : NodeId) (k : LinkId) (code : ErrCode) (rest : List Msg)
      (was : s.mail u.0 d.0 ≡ Notify l e names k code ∷ rest) (h : Option (List Step)) → o l ≡ h → Follows t s o l h →
      (w : ℕ) → WorkIsWithin o s w → LegRests t s o u d (Notify l e names k code) w
  notice-on l e names k code rest was None is blank w within =
      let some : notices_between s l u d ≡ Notify l e names k code ∷ notices_of l rest =
      rw (was, same_lsp-refl l) refl in
      absurd (let none = blank.notices u d in cc (none, some))
  notice-on l e names k code rest was (Some route) is (x, q, pl) w within =
      let some : notices_between s l u d ≡ Notify l e names k code ∷ notices_of l rest =
      rw (was, same_lsp-refl l) refl in
      let up : ComesUp (plan route x) u d (Notify l e names k code) = (rw some at (pl.notices u d)).0 in
      let u_is = same-node u (node_at (plan route x) (suc up.place)) up.from in
      let d_is = same-node d (node_at (plan route x) up.place) up.to in
      moved-rests t s o u d (node_at (plan route x) (suc up.place)) (node_at (plan route x) up.place) (sym u_is)
      (sym d_is)
      (Notify l e names k code) rest w
      (λ there. (let h = notice-rests t s o q (plan route x) up.place up.below l e names k code rest there pl is w
      within in
      record { left = h.0; within = h.1; paid = h.2; pays = h.3 })) was

  -- The leg of the LSP of a message sends less than the message weighs, and nothing that stays gets heavier.
  pub leg-rests : (m : Msg) (rest : List Msg) (was : s.mail u.0 d.0 ≡ m ∷ rest) (w : ℕ) → WorkIsWithin o s w →
      LegRests t s o u d m w
  leg-rests (Path l e k r set label role) rest was =
      part-rests (Path l e k r set label role) rest was refl
      (follows-part (Path l e k r set label role) rest was (same_lsp-refl l) (o l) refl (f l))
  leg-rests (Resv l e k x) rest was =
      part-rests (Resv l e k x) rest was refl
      (follows-part (Resv l e k x) rest was (same_lsp-refl l) (o l) refl (f l))
  leg-rests (PathTear l e k) rest was =
      part-rests (PathTear l e k) rest was refl
      (follows-part (PathTear l e k) rest was (same_lsp-refl l) (o l) refl (f l))
  leg-rests (PathErr l e at gone code) rest was =
      part-rests (PathErr l e at gone code) rest was refl
      (follows-part (PathErr l e at gone code) rest was (same_lsp-refl l) (o l) refl (f l))
  leg-rests (Notify l e names k code) rest was = notice-on l e names k code rest was (o l) refl (f l)
