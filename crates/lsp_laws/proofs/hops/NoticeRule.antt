-- Alarms and clears send Notifies of many LSPs, and a Notify is passed back: what is left of each LSP.
use Rattle.std.proofs.Common.{◌≡◌, ◌≤◌, ℕ, zero, suc, Bool, true, false, cond, nat_eq, List, [], ◌∷◌, drop, refl, sym, ap, ◌∙◌, subst, arith, inl, inr}
use Rattle.std.specs.Prelude.{◌&&◌, not, map, Option, Some, None}
use Rattle.ason_base.specs.{Network.Network, declared.codes.ErrCode.ErrCode, declared.ids.Lsp.Lsp, declared.ids.NodeId.NodeId, declared.ids.LinkId.LinkId, declared.steps.Step.Step, declared.messages.Msg.Msg, declared.messages.Msg.TheVariants.{Path, Resv, PathTear, PathErr, Notify}, declared.tables.Leg.Leg}
use Rattle.ason_base.proofs.JoinedEnds.{same-node}
use Rattle.mesh_rules.specs.{declared.neighbours.Neighbour.Neighbour, State.NodeState, Changes.{Answer, nothing, to_node}, Legs.{find_leg, following, is_closing, is_node, previous}, LocalNodes.{LocalNode, local_node}, Machine.{Mesh, commit, sent_to, without_first}, Notifies.Notice, Reports.reported}
use Rattle.lsp_laws.specs.HopLaw.{is_notice, is_notice_of, leg_at, notices_between, notices_of}
use Rattle.mesh_nodes.proofs.{Cases.if_cases, LegList.same_lsp-eq}
use Rattle.lsp_laws.proofs.{hops.Chain.LegFitsPlan, hops.InParts.{leg_of_notice, leg_part, notice_back, notice_goes}, hops.LegChanges.{previous_is, previous_none}, hops.Notices.ComesUp, hops.Planned.{Planned, Routes, Follows, NoticesStay, StillOf, follows_noticed}, hops.Plans.{Plan, hops, plan, fibre_at, node_at}, hops.Purposes.{Purpose, Each, each-append}, hops.Views.{notices-from, without-other}, hops.NoticesTold.{OnlyNotifies, none-each, notices_sent, still_notified}}

-- A Notify is taken

back_only : (m : Notice) (h : Option Neighbour) → is_notice m.msg ≡ true → OnlyNotifies (notice_back m h)
back_only m None is = record { legs = refl; numbers = refl; sent = tt }
back_only m (Some h) is = record { legs = refl; numbers = refl; sent = (is, tt) }

goes_only : (m : Notice) (g : Leg) (o : Option Bool) → is_notice m.msg ≡ true → OnlyNotifies (notice_goes m g o)
goes_only m g None is = record { legs = refl; numbers = refl; sent = tt }
goes_only m g (Some down) is = back_only m (previous g) is

leg_only : (u : NodeId) (m : Notice) (o : Option Leg) → is_notice m.msg ≡ true → OnlyNotifies (leg_of_notice u m o)
leg_only u m None is = record { legs = refl; numbers = refl; sent = tt }
leg_only u m (Some g) is =
    if_cases OnlyNotifies (not (is_closing g.phase) && is_node (following g) u) _ _
    (λ h. goes_only m g (reported m.code) is) (λ h. record { legs = refl; numbers = refl; sent = tt })

-- the leg of its LSP sends Notifies alone
pub notice_only : (p : LocalNode) (s : NodeState) (u : NodeId) (m : Msg) → is_notice m ≡ true →
    OnlyNotifies (leg_part p s u m)
notice_only p s u (Path l e k route set up r) is = absurd (cc is)
notice_only p s u (Resv l e k x) is = absurd (cc is)
notice_only p s u (PathTear l e k) is = absurd (cc is)
notice_only p s u (PathErr l e at gone code) is = absurd (cc is)
notice_only p s u (Notify l e at k code) is =
    leg_only u (record { lsp = l; msg = Notify l e at k code; at = at; link = k; code = code }) (find_leg l s.legs) refl

-- a message less
each-dropped : (Q : Msg → Type 0) (l : Lsp) (ms : List Msg) (c : Bool) → Each Q (notices_of l ms) →
    Each Q (notices_of l (cond c (drop 1 ms) ms))
each-dropped Q l [] true each = each
each-dropped Q l (m ∷ ms) true each = go (is_notice_of l m) each
  where
    go : (b : Bool) → Each Q (cond b (m ∷ notices_of l ms) (notices_of l ms)) → Each Q (notices_of l ms)
    go true each = each.1
    go false each = each
each-dropped Q l ms false each = each

-- what is sent back
module _ (m : Notice) (l : Lsp) (b : NodeId) (Q : Msg → Type 0) where
  abbrev PassedOf : Leg → Type 0
  PassedOf g =
      is_notice_of l m.msg ≡ true → (h : Neighbour) → previous g ≡ Some h → h.node.0 ≡ b.0 → Q m.msg

  back_each : (g : Leg) (h : Option Neighbour) → previous g ≡ h → PassedOf g →
      Each Q (notices_of l (sent_to b.0 (notice_back m h).sent))
  back_each g None before passed = tt
  back_each g (Some h) before passed = go (nat_eq h.node.0 b.0) (is_notice_of l m.msg) refl refl
    where
      go : (x y : Bool) → nat_eq h.node.0 b.0 ≡ x → is_notice_of l m.msg ≡ y →
          Each Q (notices_of l (map (λ o. o.msg) (cond x (to_node h.node m.msg ∷ []) [])))
      go false y e own = tt
      go true false e own = rw own tt
      go true true e own = let there : h.node.0 ≡ b.0 = grind arith in rw own (passed own h before there, tt)

  goes_each : (g : Leg) (o : Option Bool) → PassedOf g → Each Q (notices_of l (sent_to b.0 (notice_goes m g o).sent))
  goes_each g None passed = tt
  goes_each g (Some down) passed = back_each g (previous g) refl passed

  leg_each : (u : NodeId) (o : Option Leg) → ((g : Leg) → o ≡ Some g → PassedOf g) →
      Each Q (notices_of l (sent_to b.0 (leg_of_notice u m o).sent))
  leg_each u None passed = tt
  leg_each u (Some g) passed =
      if_cases (λ a. Each Q (notices_of l (sent_to b.0 a.sent)))
      (not (is_closing g.phase) && is_node (following g) u) (notice_goes m g (reported m.code)) nothing
      (λ h. goes_each g (reported m.code) (passed g refl)) (λ h. tt)

module _ (t : Network) (s : Mesh) (o : Routes) (d u : NodeId) (k : Lsp) (e at : NodeId) (link : LinkId) (code : ErrCode)
    (rest : List Msg) (was : s.mail u.0 d.0 ≡ Notify k e at link code ∷ rest) where
  abbrev message : Msg
  message = Notify k e at link code

  abbrev notice : Notice
  notice = record { lsp = k; msg = message; at = at; link = link; code = code }

  abbrev passed : Answer
  passed = leg_part (local_node t d) (s.nodes d.0) u message

  abbrev later : Mesh
  later = commit (without_first s u.0 d.0) d.0 passed

  passed_only : OnlyNotifies passed
  passed_only = notice_only (local_node t d) (s.nodes d.0) u message refl

  still_passed : (l : Lsp) → StillOf s later l
  still_passed l =
      let still = still_notified (without_first s u.0 d.0) d passed l passed_only in
      record {
        legs = still.legs;
        mail = λ x b. still.mail x b ∙ without-other s u d x b message rest l was refl;
        next = still.next;
      }

  -- the Notify came up
  came_up : (l : Lsp) (Q : NodeId → NodeId → Msg → Type 0) → is_notice_of l message ≡ true →
      ((a b : NodeId) → Each (Q a b) (notices_between s l a b)) → Q u d message
  came_up l Q own fit = (rw (was, own) at (fit u d)).0

  -- it goes up further
  goes_up : (l : Lsp) (q : Purpose) (p : Plan) → Planned t s o l q p → k ≡ l → is_notice_of l message ≡ true →
      (g : Leg) → leg_at s k d ≡ Some g → (h : Neighbour) → previous g ≡ Some h → (b : NodeId) → h.node.0 ≡ b.0 →
      ComesUp p d b message
  goes_up l q p pl is own g here h before b to =
      let there : leg_at s l d ≡ Some g = subst (λ x. leg_at s x d ≡ Some g) is here in
      elim (pl.chain.legs d) [
        | inl none ↦ absurd (cc (none, there))
        | inr (i, small, at_d) ↦ (let node_is = same-node d (node_at p i) at_d in
            let fits : LegFitsPlan t q l p i g = rw (← node_is, there) at (pl.chain.fits i small) in
            at_place i small at_d fits (came_up l (ComesUp p) own pl.notices))
      ]
    where
      at_place : (i : ℕ) → i ≤ hops p → d.0 ≡ (node_at p i).0 → LegFitsPlan t q l p i g → ComesUp p u d message →
          ComesUp p d b message
      at_place zero small at_d fits up =
          absurd (let none = previous_none t q l p g fits in cc (none, before))
      at_place (suc i) small at_d fits up =
          let one : suc i ≡ up.place =
          pl.route.apart (suc i) up.place small (let below = up.below in omega arith) (sym at_d ∙ up.to) in
          let h_is : h ≡ record { node = node_at p i; fibre = fibre_at t p i } =
          (let there = previous_is t q l p i g fits in cc (before, there)) in
          record {
            place = i;
            below = omega arith;
            from = at_d;
            to = sym to ∙ ap (λ (k : Neighbour). k.node.0) h_is;
            names = record {
              place = up.names.place;
              beyond = (let beyond = up.names.beyond in omega arith);
              within = up.names.within;
              node = up.names.node;
              link = up.names.link;
              down = up.names.down;
              tells = up.names.tells;
            };
          }

  own_of : (l : Lsp) → is_notice_of l message ≡ true → k ≡ l
  own_of l own = same_lsp-eq k l own

  stays_passed : (l : Lsp) (c : Option (List Step)) → Follows t s o l c → NoticesStay t s later o l c
  stays_passed l None blank = λ x b. none-each _ (go x b (nat_eq x.0 d.0) refl)
    where
      none-of : (ms : List Msg) → ms ≡ [] → Each (λ m. ⊥) ms
      none-of ms is = rw is tt

      dropped : (x b : NodeId) → Each (λ m. ⊥) (notices_between (without_first s u.0 d.0) l x b)
      dropped x b =
          each-dropped (λ m. ⊥) l (s.mail x.0 b.0) (nat_eq x.0 u.0 && nat_eq b.0 d.0)
          (none-of (notices_between s l x b) (blank.notices x b))

      go : (x b : NodeId) (y : Bool) → nat_eq x.0 d.0 ≡ y → Each (λ m. ⊥) (notices_between later l x b)
      go x b true same =
          let number : x.0 ≡ d.0 = grind arith in
          let is : x ≡ d = same-node x d number in
          subst (λ z. Each (λ m. ⊥) (notices_between later l z b)) (sym is)
          (subst (Each (λ m. ⊥)) (sym (notices-from (without_first s u.0 d.0) d b l passed))
          (each-append (λ m. ⊥) (notices_between (without_first s u.0 d.0) l d b)
          (notices_of l (sent_to b.0 passed.sent))
          (dropped d b)
          (leg_each notice l b (λ m. ⊥) u (find_leg k (s.nodes d.0).legs)
          (λ g found own h before to. came_up l (λ x y m. ⊥) own (λ x y. none-of _ (blank.notices x y))))))
      go x b false same = rw same (dropped x b)
  stays_passed l (Some route) follow = λ end q pl.
      notices_sent (without_first s u.0 d.0) d passed l (plan route end)
      (λ x b. each-dropped (ComesUp (plan route end) x b) l (s.mail x.0 b.0) (nat_eq x.0 u.0 && nat_eq b.0 d.0)
      (pl.notices x b))
      (λ b. leg_each notice l b (ComesUp (plan route end) d b) u (find_leg k (s.nodes d.0).legs)
      (λ g found own h before to.
      goes_up l q (plan route end) pl (own_of l own) own g found h before b to))

  pub notice_follows : (l : Lsp) (c : Option (List Step)) → Follows t s o l c →
      Follows t (commit (without_first s u.0 d.0) d.0
      (leg_part (local_node t d) (s.nodes d.0) u (Notify k e at link code))) o l c
  notice_follows l c follow = follows_noticed t s later o l c (still_passed l) (stays_passed l c follow) follow
