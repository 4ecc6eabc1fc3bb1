-- What a message that is taken leaves of the legs, calls and messages of each LSP.
use Rattle.std.proofs.{Common.{◌≡◌, ◌<◌, ℕ, suc, Bool, true, false, List, [], ◌∷◌, refl, sym, ap, ◌∙◌, subst, arith, inl, inr}, Math.Bool.and-false}
use Rattle.std.specs.Prelude.{◌⊎◌, Option, Some, None}
use Rattle.ason_base.specs.{Network.Network, Lsps.{is_lsp, same_lsp}, declared.ids.Fibre.Fibre, declared.ids.Lsp.Lsp, declared.ids.NodeId.NodeId, declared.steps.Step.Step, declared.tables.CallRec.CallRec, declared.messages.PathRole.TheVariants.{Work, Back}, declared.messages.Msg.Msg, declared.messages.Msg.TheVariants.{Path, Resv, PathTear, PathErr, Notify}}
use Rattle.ason_base.proofs.JoinedEnds.{same-node}
use Rattle.mesh_rules.specs.{Changes.Answer, Calls.call_with, Reports.with_report, LocalNodes.local_node, Legs.{find_leg, leg_of}, Machine.{Mesh, commit, without_first}, Events.{first_route, or_route}}
use Rattle.lsp_laws.specs.HopLaw.{lsp_of, is_notice, is_message_of, messages_of, leg_at, mail_between, notices_between}
use Rattle.lsp_laws.proofs.{hops.Plans.{Plan, hops, plan, node_at}, hops.Rows.{no_resv_down, no_removal_down, no_contention_down, no_path_up, no_active_up, no_tear_up}, hops.Views.{notices-plain, notices-without, without-other}, hops.Purposes.{Purpose, purpose_role}, hops.Chain.{OnRoute, Chain}, hops.Taken.{KeepsDown, KeepsUp, down_hop, up_hop, mine}, hops.InParts.leg_part, hops.NoticesTold.notifies-begin_none, hops.NoticeRule.{notice_follows, notice_only}, hops.Notices.notices_same, hops.OtherLsps.{leg-other, mail-other, route-other, sent-plain}, hops.Own.{IsOf, Own, own-leg_part}, hops.Planned.{Planned, Routes, Follows, EachFollows, IsLspUntouched, SameOf, follows_same, next_same, or_none}, hops.Stepped.BeginsNone, hops.ActivationRule.activation_keeps, hops.TakenBackRule.plain_keeps, hops.TearRule.tear_keeps, hops.Turned.BackFits, hops.ResvRule.resv_keeps, hops.ErrRule.err_keeps}
use Rattle.mesh_nodes.specs.Routes.{AreRowsOf}
use Rattle.mesh_nodes.proofs.{Cases.if_cases, LegList.{same_lsp-eq, same_lsp-refl}}

-- the leg of a call's backup begins at the call's ingress, and is cross-connected there while the call is turned
abbrev pub CallsBackHere : Mesh → Type 0
CallsBackHere s =
    (n : NodeId) (l : Lsp) (c : CallRec) → call_with l (s.nodes n.0).calls ≡ Some c →
    BackFits s n c.state (leg_of c.back (s.nodes n.0).legs)

-- a report changes no call's state
pub reported_state : (c : CallRec) (l : Lsp) (down : Bool) (f : Fibre) → (with_report c l down f).state ≡ c.state
reported_state c l down f =
    if_cases (λ (d : CallRec). d.state ≡ c.state) (is_lsp c.work l) _ _ (λ works. refl) (λ backs. refl)

-- A message of the LSP is taken on its route

module _ (t : Network) (s : Mesh) (o : Routes) (q : Purpose) (rest : List Msg) (p : Plan) (i : ℕ) (below : i < hops p)
  where
    -- it came down
    taken_down : (m : Msg) (own : is_message_of (lsp_of m) m ≡ true)
        (was : s.mail (node_at p i).0 (node_at p (suc i)).0 ≡ m ∷ rest)
        (learnt : AreRowsOf t (s.nodes (node_at p (suc i)).0).learnt)
        (pl : Planned t s o (lsp_of m) q p) → KeepsDown t q s (lsp_of m) p i pl.route pl.chain below m rest was own
        (leg_part (local_node t (node_at p (suc i))) (s.nodes (node_at p (suc i)).0) (node_at p i) m)
    taken_down (Path l e k r set label (Work guard)) own was learnt pl =
        plain_keeps t q s l p i pl.route pl.chain below e k r set label rest (Work guard) was learnt refl
    taken_down (Path l e k r set label (Back true work primary)) own was learnt pl =
        activation_keeps t q s l p i pl.route pl.chain below e k r set label work primary rest was
        (find_leg l (s.nodes (node_at p (suc i)).0).legs) refl
    taken_down (Path l e k r set label (Back false work primary)) own was learnt pl =
        plain_keeps t q s l p i pl.route pl.chain below e k r set label rest (Back false work primary) was learnt refl
    taken_down (Resv l e k x) own was learnt pl =
        absurd (no_resv_down (purpose_role q) _ _ _ _
        (down_hop t q s l p i pl.route pl.chain below (Resv l e k x) rest was own).shape)
    taken_down (PathTear l e k) own was learnt pl =
        tear_keeps t q s l p i pl.route pl.chain below e k rest was
        (find_leg l (s.nodes (node_at p (suc i)).0).legs) refl
    taken_down (PathErr l e at true code) own was learnt pl =
        absurd (no_removal_down (purpose_role q) _ _ _ _
        (down_hop t q s l p i pl.route pl.chain below (PathErr l e at true code) rest was own).shape)
    taken_down (PathErr l e at false code) own was learnt pl =
        absurd (no_contention_down (purpose_role q) _ _ _ _
        (down_hop t q s l p i pl.route pl.chain below (PathErr l e at false code) rest was own).shape)
    taken_down (Notify l e at k code) own was learnt pl = absurd cc

    -- it came up
    taken_up : (m : Msg) (own : is_message_of (lsp_of m) m ≡ true)
        (was : s.mail (node_at p (suc i)).0 (node_at p i).0 ≡ m ∷ rest)
        (pl : Planned t s o (lsp_of m) q p) → KeepsUp t q s (lsp_of m) p i pl.route pl.chain below m rest was own
        (leg_part (local_node t (node_at p i)) (s.nodes (node_at p i).0) (node_at p (suc i)) m)
    taken_up (Path l e k r set label (Work guard)) own was pl =
        absurd (no_path_up (purpose_role q) _ _ _ _
        (up_hop t q s l p i pl.route pl.chain below (Path l e k r set label (Work guard)) rest was own).shape)
    taken_up (Path l e k r set label (Back true work primary)) own was pl =
        absurd (no_active_up (purpose_role q) _ _ _ _
        (up_hop t q s l p i pl.route pl.chain below (Path l e k r set label (Back true work primary)) rest was
        own).shape)
    taken_up (Path l e k r set label (Back false work primary)) own was pl =
        absurd (no_path_up (purpose_role q) _ _ _ _
        (up_hop t q s l p i pl.route pl.chain below (Path l e k r set label (Back false work primary)) rest was
        own).shape)
    taken_up (Resv l e k x) own was pl =
        resv_keeps t q s l p i pl.route pl.chain below e k x rest was (find_leg l (s.nodes (node_at p i).0).legs) refl
    taken_up (PathTear l e k) own was pl =
        absurd (no_tear_up (purpose_role q) _ _ _ _
        (up_hop t q s l p i pl.route pl.chain below (PathTear l e k) rest was own).shape)
    taken_up (PathErr l e at gone code) own was pl =
        err_keeps t q s l p i pl.route pl.chain below e at gone code rest was gone refl
        (find_leg l (s.nodes (node_at p i).0).legs) refl
    taken_up (Notify l e at k code) own was pl = absurd cc

-- the state after the leg of a message that is taken has followed
abbrev pub after_leg : Network → Mesh → NodeId → NodeId → Msg → Mesh
after_leg t s d u m = commit (without_first s u.0 d.0) d.0 (leg_part (local_node t d) (s.nodes d.0) u m)

module _ (t : Network) (s : Mesh) (o : Routes) (d u : NodeId) (m : Msg) (rest : List Msg)
    (was : s.mail u.0 d.0 ≡ m ∷ rest) (learnt : AreRowsOf t (s.nodes d.0).learnt) where
  take_here : (q : Purpose) (p : Plan) → is_message_of (lsp_of m) m ≡ true → Planned t s o (lsp_of m) q p →
      (mail_between s (lsp_of m) u d ≡ []) ⊎ OnRoute p u d →
      Chain t q (lsp_of m) p (leg_at (after_leg t s d u m) (lsp_of m)) (mail_between (after_leg t s d u m) (lsp_of m))
  take_here q p own planned (inl none) =
      let some : mail_between s (lsp_of m) u d ≡ m ∷ messages_of (lsp_of m) rest =
      mine s (lsp_of m) u d m rest was own in
      absurd (cc (none, some))
  take_here q p own planned (inr (i, below, inl (at_u, at_d))) =
      let u_is = same-node u (node_at p i) at_u in
      let d_is = same-node d (node_at p (suc i)) at_d in
      rw (u_is, d_is)
      (taken_down t s o q rest p i below m own (rw (u_is, d_is) at was) (rw d_is at learnt) planned)
  take_here q p own planned (inr (i, below, inr (at_u, at_d))) =
      let u_is = same-node u (node_at p (suc i)) at_u in
      let d_is = same-node d (node_at p i) at_d in
      rw (u_is, d_is) (taken_up t s o q rest p i below m own (rw (u_is, d_is) at was) planned)

  own_take : is_notice m ≡ false → Own (lsp_of m) (leg_part (local_node t d) (s.nodes d.0) u m)
  own_take plain = own-leg_part (local_node t d) (s.nodes d.0) u m plain

  take_numbers : (leg_part (local_node t d) (s.nodes d.0) u m).numbers ≡ None
  take_numbers = go (is_notice m) refl
    where
      go : (b : Bool) → is_notice m ≡ b → (leg_part (local_node t d) (s.nodes d.0) u m).numbers ≡ None
      go true notice = (notice_only (local_node t d) (s.nodes d.0) u m notice).numbers
      go false plain = (own_take plain).numbers

  pub take_next : (n : ℕ) → ((after_leg t s d u m).nodes n).lsp ≡ (s.nodes n).lsp
  take_next n =
      next_same (without_first s u.0 d.0) d.0 n (leg_part (local_node t d) (s.nodes d.0) u m) take_numbers

  -- the Notifies of each LSP stay
  take_notices : is_notice m ≡ false → (l : Lsp) (x b : NodeId) →
      notices_between (after_leg t s d u m) l x b ≡ notices_between s l x b
  take_notices plain l x b =
      let a : Answer = leg_part (local_node t d) (s.nodes d.0) u m in
      notices-plain (without_first s u.0 d.0) d x b l a (sent-plain (lsp_of m) a.sent (own_take plain).sent) ∙
      notices-without s u d x b m rest l was (rw plain refl)

  -- a message of another LSP
  take_other : is_notice m ≡ false → (l : Lsp) → same_lsp (lsp_of m) l ≡ false → SameOf s (after_leg t s d u m) l
  take_other plain l apart =
      let a : Answer = leg_part (local_node t d) (s.nodes d.0) u m in
      let of : IsOf (lsp_of m) a = record { legs = (own_take plain).legs; sent = (own_take plain).sent } in
      record {
        still = record {
          legs = λ n. leg-other (without_first s u.0 d.0) d n (lsp_of m) l a of apart;
          mail =
              λ x b. mail-other (without_first s u.0 d.0) d x b (lsp_of m) l a of apart ∙ without-other s u d x b
              m rest
              l was (rw apart (and-false _));
          next = (let e = take_next l.ingress.0 in omega arith);
        };
        notices = take_notices plain l;
      }

  take_blank : is_message_of (lsp_of m) m ≡ true → IsLspUntouched s (lsp_of m) → ⊥
  take_blank own blank =
      let some : mail_between s (lsp_of m) u d ≡ m ∷ messages_of (lsp_of m) rest =
      mine s (lsp_of m) u d m rest was own in
      cc (some, blank.mail u d)

  own_message : is_notice m ≡ false → is_message_of (lsp_of m) m ≡ true
  own_message plain = rw plain (same_lsp-refl (lsp_of m))

  -- a message of this LSP
  take_own : (c : Option (List Step)) → is_notice m ≡ false → Follows t s o (lsp_of m) c →
      Follows t (after_leg t s d u m) o (lsp_of m) c
  take_own None plain f = absurd (take_blank (own_message plain) f)
  take_own (Some route) plain (e, q, pl) =
      let number : (lsp_of m).lsp < ((after_leg t s d u m).nodes (lsp_of m).ingress.0).lsp =
      rw (take_next (lsp_of m).ingress.0) pl.number in (
        e,
        q,
        record {
          route = pl.route;
          made = pl.made;
          chain = take_here q (plan route e) (own_message plain) pl (pl.chain.ways u d);
          notices = notices_same (plan route e) (notices_between s (lsp_of m))
              (notices_between (after_leg t s d u m) (lsp_of m)) (take_notices plain (lsp_of m)) pl.notices;
          number = number;
          guards = pl.guards;
          beside = pl.beside;
        },
      )

  take_notice : (n : Msg) → s.mail u.0 d.0 ≡ n ∷ rest → is_notice n ≡ true → (l : Lsp) (c : Option (List Step)) →
      Follows t s o l c → Follows t (after_leg t s d u n) o l c
  take_notice (Path l e k route set up r) is notice j c f = absurd (cc notice)
  take_notice (Resv l e k x) is notice j c f = absurd (cc notice)
  take_notice (PathTear l e k) is notice j c f = absurd (cc notice)
  take_notice (PathErr l e at gone code) is notice j c f = absurd (cc notice)
  take_notice (Notify l e at k code) is notice j c f = notice_follows t s o d u l e at k code rest is j c f

  pub take_follows : (l : Lsp) (c : Option (List Step)) → Follows t s o l c → (notice own : Bool) →
      is_notice m ≡ notice →
      same_lsp (lsp_of m) l ≡ own → Follows t (after_leg t s d u m) o l c
  take_follows l c f true own is e = take_notice m was is l c f
  take_follows l c f false false is e = follows_same t s (after_leg t s d u m) o l c (take_other is l e) f
  take_follows l c f false true is e =
      let of = same_lsp-eq (lsp_of m) l e in
      subst (λ k. Follows t (after_leg t s d u m) o k c) of (take_own c is (rw of f))

  -- no first Path of an LSP is sent where it begins
  pub take_begins_none : EachFollows t s o → BeginsNone d o (leg_part (local_node t d) (s.nodes d.0) u m)
  take_begins_none f l here = go (is_notice m) refl
    where
      known : (c : Option (List Step)) → o l ≡ c → Follows t s o l c → is_notice m ≡ false → lsp_of m ≡ l →
          or_route (o l) (first_route l (leg_part (local_node t d) (s.nodes d.0) u m).sent) ≡ o l
      known None is blank plain own =
          absurd (take_blank (own_message plain) (subst (IsLspUntouched s) (sym own) blank))
      known (Some route) is follow plain own =
          ap (λ x. or_route x (first_route l (leg_part (local_node t d) (s.nodes d.0) u m).sent)) is ∙ sym is

      of : is_notice m ≡ false → (b : Bool) → same_lsp (lsp_of m) l ≡ b →
          or_route (o l) (first_route l (leg_part (local_node t d) (s.nodes d.0) u m).sent) ≡ o l
      of plain true own = known (o l) refl (f l) plain (same_lsp-eq (lsp_of m) l own)
      of plain false apart =
          rw (route-other (lsp_of m) l (leg_part (local_node t d) (s.nodes d.0) u m).sent (own_take plain).sent apart)
          (or_none (o l))

      go : (b : Bool) → is_notice m ≡ b →
          or_route (o l) (first_route l (leg_part (local_node t d) (s.nodes d.0) u m).sent) ≡ o l
      go true notice =
          rw (notifies-begin_none l (leg_part (local_node t d) (s.nodes d.0) u m).sent
          (notice_only (local_node t d) (s.nodes d.0) u m notice).sent) (or_none (o l))
      go false plain = of plain (same_lsp (lsp_of m) l) refl
