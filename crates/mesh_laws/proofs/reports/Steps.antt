-- Every event keeps what the reports of an LSP tell that was begun before.
use Rattle.std.proofs.Common.{◌≡◌, ◌<◌, ℕ, suc, Bool, true, false, List, [], ◌∷◌, refl, sym, ap, subst, inl, inr}
use Rattle.std.specs.Prelude.{◌&&◌, ◌⊎◌, Option, Some, None}
use Rattle.ason_base.specs.{Lsps.same_lsp, Network.{Network, find_link, row_of}, declared.commands.Command.Command, declared.commands.Command.TheVariants.{Setup, Release, Protect, Retry, Revert, Fail, Repair}, declared.commands.DeskItem.DeskItem, declared.commands.DeskItem.TheVariants.{Order, Alarm, Clear}, declared.codes.ErrCode.ErrCode, declared.ids.LinkId.LinkId, declared.ids.Lsp.Lsp, declared.ids.NodeId.NodeId, declared.messages.Msg.Msg, declared.messages.Msg.TheVariants.{Path, Resv, PathTear, PathErr, Notify}, declared.messages.PathRole.PathRole, declared.messages.PathRole.TheVariants.{Work, Back}, declared.network.LinkSpec.LinkSpec, declared.steps.Step.Step, declared.tables.Leg.Leg}
use Rattle.ason_base.proofs.JoinedEnds.{same-node}
use Rattle.mesh_rules.specs.{declared.events.MeshEvent.MeshEvent, declared.events.MeshEvent.TheVariants.{Take, Desk, Tick, Learn, Post}, Calls.find_call, Changes.{Answer, learns, nothing}, Events.{has_first, is_enabled, on_first, on_first_item, posted, step}, KnownRows.{has_row, known_rows}, Learnt.on_link, Legs.find_leg, LocalNodes.{LocalNode, local_node}, Machine.{Mesh, commit, without_first, without_item}, Messages.on_message, Orders.on_item, Paths.is_active, State.NodeState, Waits.on_tick}
use Rattle.mesh_nodes.proofs.{Cases.if_cases, LegList.{same_lsp-eq, same_lsp-refl}}
use Rattle.lsp_laws.specs.{HopLaw.{is_notice_of, leg_at, lsp_of, mail_between, messages_of, notices_of}, HopShapes.{PlainPath, path_kind}, ReportLaw.is_standing}
use Rattle.lsp_laws.proofs.{nodes.Facts.MeshFacts, hops.Chain.OnRoute, hops.Planned.{Planned, Routes}, hops.Plans.{Plan, hops, node_at, plan}, hops.Purposes.{Purpose, purpose_role}, hops.Rows.no_path_up, hops.Taken.up_hop}
use Rattle.mesh_laws.proofs.{reports.AlarmSteps.{on_alarm-told, on_clear-told}, reports.FirstSteps.first_path-told, reports.GentleWords.{Gentle, IsGentle, RouteTold, gentle-then, gentle-told, has_plain, is_plain, is_waiting}, reports.Gentle.{commit-gentle, taken-gentle}, reports.AnswerParts.{mild-gentle, nothing-gentle, same-calls, same-legs}, reports.StandingCalls.IsOldLsp, reports.GentleSteps.{message-gentle, order-gentle}, reports.OwnNotices.{LowFirst, own_notice-told}, reports.Ticks.tick-gentle}

-- a desk, or what was posted or has failed, changes
pub unmoved : (s s' : Mesh) (l : Lsp) → s'.nodes ≡ s.nodes → s'.mail ≡ s.mail → Gentle s s' l
unmoved s s' l nodes mail = record {
  still = record {
    stands = λ n h. subst (λ (ns : ℕ → NodeState). is_standing (find_leg l (ns n.0).legs) ≡ true) nodes h;
    gone = λ n h. subst (λ (ns : ℕ → NodeState). find_leg l (ns n.0).legs ≡ None) (sym nodes) h;
    first = λ a b h. subst (λ (ns : ℕ → NodeState). (is_waiting (find_leg l (ns a.0).legs)
        && has_plain (mail_between s l a b)) ≡ true) nodes
        (subst (λ (ms : ℕ → ℕ → List Msg). (is_waiting (leg_at s' l a)
        && has_plain (messages_of l (ms a.0 b.0))) ≡ true) mail h);
    down = λ n. ap (λ (ns : ℕ → NodeState). (ns n).down) nodes;
  };
  notices = λ a b. ap (λ (ms : ℕ → ℕ → List Msg). notices_of l (ms a.0 b.0)) mail;
  calls = λ c of. (
    c,
    record {
      found = subst (λ (ns : ℕ → NodeState). find_call c.call (ns l.ingress.0).calls ≡ Some c) nodes of.found;
      named = of.named;
    },
    refl,
  );
}

posted-same : (t : Network) (s : Mesh) (c : Command) (l : Lsp) → Gentle s (posted t s c) l
posted-same t s (Setup n from to protected both via backup) l =
    unmoved s (posted t s (Setup n from to protected both via backup)) l refl refl
posted-same t s (Release n from) l = unmoved s (posted t s (Release n from)) l refl refl
posted-same t s (Protect n from) l = unmoved s (posted t s (Protect n from)) l refl refl
posted-same t s (Retry n from) l = unmoved s (posted t s (Retry n from)) l refl refl
posted-same t s (Revert n from) l = unmoved s (posted t s (Revert n from)) l refl refl
posted-same t s (Fail g) l = unmoved s (posted t s (Fail g)) l refl refl
posted-same t s (Repair g) l = unmoved s (posted t s (Repair g)) l refl refl

link-gentle : (p : LocalNode) (s : NodeState) (l : Lsp) (o : Option LinkSpec) → IsGentle s l (on_link p s o)
link-gentle p s l None = nothing-gentle s l
link-gentle p s l (Some k) =
    if_cases (IsGentle s l) (has_row (known_rows p s) k.id) nothing (learns (row_of k)) (λ e. nothing-gentle s l)
    (λ e. mild-gentle s l (learns (row_of k)) (same-legs l (find_leg l s.legs)) tt refl (same-calls l s.calls))

module _ (t : Network) (low : LowFirst t) (s : Mesh) (o : Routes) (facts : MeshFacts t s) (l : Lsp) (q : Purpose)
    (route : List Step) (end : NodeId) (pl : Planned t s o l q (plan route end))
    (r : RouteTold t s l (plan route end)) where
  abbrev p : Plan
  p = plan route end

  by-gentle : (x : Mesh) → Gentle s x l → RouteTold t x l (plan route end)
  by-gentle x g = gentle-told t s x l p g r

  -- an answer of a node that tells nothing
  by-answer : (n : NodeId) (a : Answer) → IsGentle (s.nodes n.0) l a → RouteTold t (commit s n.0 a) l (plan route end)
  by-answer n a g = by-gentle (commit s n.0 a) (commit-gentle s n l a g)

  old : (n : NodeId) → IsOldLsp (local_node t n) (s.nodes n.0) l
  old n here =
      subst (λ k. l.lsp < (s.nodes k).lsp) here pl.number

  -- Desks

  item-told : (n : NodeId) (i : DeskItem) →
      RouteTold t (commit s n.0 (on_item (local_node t n) (s.nodes n.0) i)) l (plan route end)
  item-told n (Order c) =
      by-answer n (on_item (local_node t n) (s.nodes n.0) (Order c))
      (order-gentle (local_node t n) (s.nodes n.0) (facts.node n.0) l (old n) c)
  item-told n (Alarm f) = on_alarm-told t s n o (facts.node n.0).legs_rise l q p pl r f
  item-told n (Clear f) = on_clear-told t s n o (facts.node n.0).legs_rise l q p pl r f

  first_item-told : (n : NodeId) (items : List DeskItem) →
      RouteTold t (commit s n.0 (on_first_item (local_node t n) (s.nodes n.0) items)) l (plan route end)
  first_item-told n [] = by-answer n nothing (nothing-gentle (s.nodes n.0) l)
  first_item-told n (i ∷ items) = item-told n i

  -- Messages

  module _ (d u : NodeId) (rest : List Msg) where
    abbrev After : Msg → Mesh
    After m = commit (without_first s u.0 d.0) d.0 (on_message (local_node t d) (s.nodes d.0) u m)

    other-told : (m : Msg) → s.mail u.0 d.0 ≡ m ∷ rest → is_notice_of l m ≡ false →
        ((is_plain m ≡ true) × (same_lsp (lsp_of m) l ≡ true) × (find_leg (lsp_of m) (s.nodes d.0).legs ≡ None) → ⊥) →
        RouteTold t (After m) l (plan route end)
    other-told m was other not_first =
        by-gentle (After m)
        (gentle-then s (without_first s u.0 d.0) (After m) l (taken-gentle s u d l m rest was other)
        (commit-gentle (without_first s u.0 d.0) d l (on_message (local_node t d) (s.nodes d.0) u m)
        (message-gentle (local_node t d) (s.nodes d.0) (facts.node d.0) l (old d) u m other not_first)))

    plain-kind : (r : PathRole) → is_active r ≡ false → path_kind r ≡ PlainPath
    plain-kind (Work guard) e = refl
    plain-kind (Back true work primary) e = absurd (cc e)
    plain-kind (Back false work primary) e = refl

    -- the first Path comes down a hop
    first-told : (e : NodeId) (k : LinkId) (steps : List Step) (set : List ℕ) (label : Option ℕ) (purpose : PathRole) →
        s.mail u.0 d.0 ≡ Path l e k steps set label purpose ∷ rest → is_active purpose ≡ false →
        find_leg l (s.nodes d.0).legs ≡ None →
        RouteTold t (After (Path l e k steps set label purpose)) l (plan route end)
    first-told e k steps set label purpose was inactive none = go (pl.chain.ways u d)
      where
        m : Msg
        m = Path l e k steps set label purpose

        kind : path_kind purpose ≡ PlainPath
        kind = plain-kind purpose inactive

        here : mail_between s l u d ≡ Path l e k steps set label purpose ∷ messages_of l rest
        here = rw (was, same_lsp-refl l) refl

        down : (i : ℕ) → i < hops (plan route end) → u.0 ≡ (node_at (plan route end) i).0 →
            d.0 ≡ (node_at (plan route end) (suc i)).0 →
            RouteTold t (After (Path l e k steps set label purpose)) l (plan route end)
        down i below at_u at_d =
            let u_is = same-node u (node_at (plan route end) i) at_u in
            let d_is = same-node d (node_at (plan route end) (suc i)) at_d in
            rw (u_is, d_is)
            (first_path-told t s o l q (plan route end) i pl below e k steps set label purpose rest
            (rw (u_is, d_is) at was) (rw d_is at (facts.learnt d.0)) kind (rw d_is at none) r)

        up-never : (i : ℕ) → i < hops (plan route end) → u.0 ≡ (node_at (plan route end) (suc i)).0 →
            d.0 ≡ (node_at (plan route end) i).0 → ⊥
        up-never i below at_u at_d =
            let u_is = same-node u (node_at (plan route end) (suc i)) at_u in
            let d_is = same-node d (node_at (plan route end) i) at_d in
            let shape = (up_hop t q s l (plan route end) i pl.route pl.chain below
            (Path l e k steps set label purpose) rest (rw (u_is, d_is) at was) (same_lsp-refl l)).shape in
            no_path_up (purpose_role q) _ _ _ _ (rw kind at shape)

        go : (mail_between s l u d ≡ []) ⊎ OnRoute (plan route end) u d →
            RouteTold t (After (Path l e k steps set label purpose)) l (plan route end)
        go (inl empty) = absurd (let some = here in cc (empty, some))
        go (inr (i, below, inl (at_u, at_d))) = down i below at_u at_d
        go (inr (i, below, inr (at_u, at_d))) = absurd (up-never i below at_u at_d)

    path-told : (j : Lsp) (e : NodeId) (k : LinkId) (steps : List Step) (set : List ℕ) (label : Option ℕ)
        (purpose : PathRole) → s.mail u.0 d.0 ≡ Path j e k steps set label purpose ∷ rest →
        RouteTold t (After (Path j e k steps set label purpose)) l (plan route end)
    path-told j e k steps set label purpose was =
        go (same_lsp j l) (is_active purpose) (find_leg j (s.nodes d.0).legs) refl refl refl
      where
        go : (x y : Bool) (g : Option Leg) → same_lsp j l ≡ x → is_active purpose ≡ y →
            find_leg j (s.nodes d.0).legs ≡ g → RouteTold t (After (Path j e k steps set label purpose)) l
            (plan route end)
        go false y g x-is y-is g-is =
            other-told (Path j e k steps set label purpose) was refl (λ f. let own = f.1 in cc (own, x-is))
        go true true g x-is y-is g-is =
            other-told (Path j e k steps set label purpose) was refl (λ f. (let h = rw y-is at f.0 in cc h))
        go true false (Some g) x-is y-is g-is =
            other-told (Path j e k steps set label purpose) was refl (λ f. let none = f.2 in cc (none, g-is))
        go true false None x-is y-is g-is =
            let one : j ≡ l = same_lsp-eq j l x-is in
            subst (λ i. RouteTold t (After (Path i e k steps set label purpose)) l (plan route end)) (sym one)
            (first-told e k steps set label purpose
            (subst (λ i. s.mail u.0 d.0 ≡ Path i e k steps set label purpose ∷ rest) one was) y-is
            (subst (λ i. find_leg i (s.nodes d.0).legs ≡ None) one g-is))

    notice-told : (j : Lsp) (e : NodeId) (at : NodeId) (k : LinkId) (code : ErrCode) →
        s.mail u.0 d.0 ≡ Notify j e at k code ∷ rest → RouteTold t (After (Notify j e at k code)) l (plan route end)
    notice-told j e at k code was = go (same_lsp j l) refl
      where
        go : (x : Bool) → same_lsp j l ≡ x → RouteTold t (After (Notify j e at k code)) l (plan route end)
        go false is = other-told (Notify j e at k code) was is (λ f. let h = f.0 in cc h)
        go true is =
            let one : j ≡ l = same_lsp-eq j l is in
            subst (λ i. RouteTold t (After (Notify i e at k code)) l (plan route end)) (sym one)
            (own_notice-told t low s o d u l e at k code rest
            (subst (λ i. s.mail u.0 d.0 ≡ Notify i e at k code ∷ rest) one was) (facts.node d.0) q route end pl r)

    message-told : (m : Msg) → s.mail u.0 d.0 ≡ m ∷ rest → RouteTold t (After m) l (plan route end)
    message-told (Path j e k steps set label purpose) was = path-told j e k steps set label purpose was
    message-told (Resv j e k x) was = other-told (Resv j e k x) was refl (λ f. let h = f.0 in cc h)
    message-told (PathTear j e k) was = other-told (PathTear j e k) was refl (λ f. let h = f.0 in cc h)
    message-told (PathErr j e at gone code) was =
        other-told (PathErr j e at gone code) was refl (λ f. let h = f.0 in cc h)
    message-told (Notify j e at k code) was = notice-told j e at k code was

  taken-told : (d u : NodeId) (ms : List Msg) → s.mail u.0 d.0 ≡ ms → has_first ms ≡ true →
      RouteTold t (commit (without_first s u.0 d.0) d.0 (on_first (local_node t d) (s.nodes d.0) u ms)) l
      (plan route end)
  taken-told d u [] was some = absurd (cc some)
  taken-told d u (m ∷ rest) was some = message-told d u rest m was

  -- Every event

  pub step-told : (e : MeshEvent) → is_enabled t s e ≡ true → RouteTold t (step t s e) l (plan route end)
  step-told (Take d u) enabled = taken-told d u (s.mail u.0 d.0) refl enabled
  step-told (Desk n) enabled =
      let a = on_first_item (local_node t n) (s.nodes n.0) (s.desks n.0) in
      gentle-told t (commit s n.0 a) (commit (without_item s n.0) n.0 a) l p
      (unmoved (commit s n.0 a) (commit (without_item s n.0) n.0 a) l refl refl) (first_item-told n (s.desks n.0))
  step-told (Tick n) enabled =
      by-answer n (on_tick (local_node t n) (s.nodes n.0))
      (tick-gentle (local_node t n) (s.nodes n.0) (facts.node n.0) l)
  step-told (Learn n k) enabled =
      by-answer n (on_link (local_node t n) (s.nodes n.0) (find_link t k))
      (link-gentle (local_node t n) (s.nodes n.0) l (find_link t k))
  step-told (Post c) enabled = by-gentle (posted t s c) (posted-same t s c l)
