-- Notifies that a node tells of a fibre: to which neighbours they go, and that they change nothing else.
use Rattle.std.proofs.{Common.{◌≡◌, ◌≤◌, ℕ, zero, suc, Bool, true, false, cond, nat_eq, List, [], ◌∷◌, ◌++◌, refl, sym, ap, ◌∙◌, subst, arith, inl, inr, append-nil}, lemmas.List.Elements.filter-append}
use Rattle.std.specs.{Prelude.{◌&&◌, not, filter, map, Option, Some, None}, List.AllByRecursion}
use Rattle.ason_base.specs.{Codes.{fibre_down_code, fibre_up_code}, Lsps.{has_fibre, same_bool, same_fibre, same_lsp, without_fibre}, Network.Network, declared.codes.ErrCode.ErrCode, declared.ids.Fibre.Fibre, declared.ids.Lsp.Lsp, declared.ids.NodeId.NodeId, declared.steps.Step.Step, declared.messages.Msg.Msg, declared.messages.Msg.TheVariants.{Path, Resv, PathTear, PathErr, Notify}, declared.tables.Leg.Leg, declared.tables.Out.Out}
use Rattle.ason_base.proofs.{Members.all-then, Bools.and-left, JoinedEnds.same-node}
use Rattle.mesh_rules.specs.{declared.neighbours.Neighbour.Neighbour, State.NodeState, Alarms.{enters, is_hit, knows_down, notice_of, notices, notify_to, on_alarm, on_clear}, Changes.{Answer, nothing, to_node}, Events.{first_route, whole_route}, Legs.{find_leg, is_on, previous}, LocalNodes.{LocalNode, local_node, own_link}, Machine.{Mesh, commit, sent_to}, Reports.reported}
use Rattle.lsp_laws.specs.HopLaw.{is_notice, leg_at, mail_between, messages_of, notices_between, notices_of}
use Rattle.mesh_nodes.proofs.{Cases.if_cases, LegList.same_lsp-eq}
use Rattle.lsp_laws.proofs.{hops.Stepped.{EachStepped, stepped_none, stepped_quiet}, hops.Chain.LegFitsPlan, hops.FollowedBy.sent-then, hops.LegChanges.{previous_is, previous_none}, hops.Notices.{ComesUp, NoticesFit}, hops.Planned.{Planned, Routes, Follows, EachFollows, NoticesStay, StillOf, follows_noticed, next_same}, hops.Plans.{Plan, hops, plan, fibre_at, node_at}, hops.Purposes.{Purpose, Each, each-append}, hops.Views.{leg-here, mail-from, notices-from}}

-- each of these messages is a Notify
abbrev pub SendsNotices : List Out → Type 0
SendsNotices [] = Unit {0}
SendsNotices (o ∷ outs) = (is_notice o.msg ≡ true) × SendsNotices outs

-- an answer that changes no leg and sends Notifies alone
pub record OnlyNotifies (a : Answer) : Type 0 where
  pub legs : a.legs ≡ []
  pub numbers : a.numbers ≡ None
  pub sent : SendsNotices a.sent

no_message : (l : Lsp) (d : ℕ) (outs : List Out) → SendsNotices outs → messages_of l (sent_to d outs) ≡ []
no_message l d [] h = refl
no_message l d (o ∷ outs) h =
    let more = no_message l d outs h.1 in
    elim (nat_eq o.to.0 d) as
    (λ c. messages_of l (map (λ o. o.msg)
    (cond c (o ∷ filter (λ o. nat_eq o.to.0 d) outs) (filter (λ o. nat_eq o.to.0 d) outs))) ≡ []) [
      | true ↦ rw h.0 more
      | false ↦ more
    ]

whole-none : (l : Lsp) (m : Msg) → is_notice m ≡ true → whole_route l m ≡ None
whole-none l (Path k e link route set up r) is = absurd (cc is)
whole-none l (Resv k e link x) is = refl
whole-none l (PathTear k e link) is = refl
whole-none l (PathErr k e at gone code) is = refl
whole-none l (Notify k e at link code) is = refl

pub notifies-begin_none : (l : Lsp) (outs : List Out) → SendsNotices outs → first_route l outs ≡ None
notifies-begin_none l [] h = refl
notifies-begin_none l (o ∷ outs) h = rw (whole-none l o.msg h.0) (notifies-begin_none l outs h.1)

pub still_notified : (s : Mesh) (n : NodeId) (a : Answer) (l : Lsp) → OnlyNotifies a → StillOf s (commit s n.0 a) l
still_notified s n a l only = record {
  legs = λ m. leg m (nat_eq m.0 n.0) refl;
  mail = λ x b. mail x b (nat_eq x.0 n.0) refl;
  next = (let e = next_same s n.0 l.ingress.0 a only.numbers in omega arith);
}
  where
    leg : (m : NodeId) (b : Bool) → nat_eq m.0 n.0 ≡ b → leg_at (commit s n.0 a) l m ≡ leg_at s l m
    leg m true e = let is : m.0 ≡ n.0 = grind arith in rw is (leg-here s n l a ∙ rw only.legs refl)
    leg m false e = rw e refl

    mail : (x b : NodeId) (c : Bool) → nat_eq x.0 n.0 ≡ c → mail_between (commit s n.0 a) l x b ≡ mail_between s l x b
    mail x b true e =
        let is : x.0 ≡ n.0 = grind arith in
        rw is (mail-from s n b l a ∙ rw (no_message l b.0 a.sent only.sent, append-nil) refl)
    mail x b false e = rw e refl

-- what the Notifies under way are after such an answer
pub notices_sent : (s : Mesh) (n : NodeId) (a : Answer) (l : Lsp) (p : Plan) → NoticesFit p (notices_between s l) →
    ((b : NodeId) → Each (ComesUp p n b) (notices_of l (sent_to b.0 a.sent))) →
    NoticesFit p (notices_between (commit s n.0 a) l)
notices_sent s n a l p fit sent x b = go (nat_eq x.0 n.0) refl
  where
    go : (c : Bool) → nat_eq x.0 n.0 ≡ c → Each (ComesUp p x b) (notices_between (commit s n.0 a) l x b)
    go true e =
        let number : x.0 ≡ n.0 = grind arith in
        let is : x ≡ n = same-node x n number in
        subst (λ y. Each (ComesUp p y b) (notices_between (commit s n.0 a) l y b)) (sym is)
        (subst (Each (ComesUp p n b)) (sym (notices-from s n b l a))
        (each-append (ComesUp p n b) (notices_between s l n b) (notices_of l (sent_to b.0 a.sent)) (fit n b) (sent b)))
    go false e = rw e (fit x b)

-- Alarms and clears

to_is_notice : (p : LocalNode) (f : Fibre) (code : ErrCode) (g : Leg) (h : Option Neighbour) →
    SendsNotices (notify_to p f code g h)
to_is_notice p f code g None = tt
to_is_notice p f code g (Some h) = (refl, tt)

notices-append : (a b : List Out) → SendsNotices a → SendsNotices b → SendsNotices (a ++ b)
notices-append [] b h k = k
notices-append (o ∷ a) b h k = (h.0, notices-append a b h.1 k)

pub all_notices : (p : LocalNode) (f : Fibre) (code : ErrCode) (legs : List Leg) → SendsNotices (notices p f code legs)
all_notices p f code [] = tt
all_notices p f code (g ∷ legs) =
    notices-append (notice_of p f code g) (notices p f code legs)
    (if_cases SendsNotices (is_hit f g) _ _ (λ h. to_is_notice p f code g (previous g)) (λ h. tt))
    (all_notices p f code legs)

-- a property of each Notify of one LSP that goes to one node
module _ (p : LocalNode) (f : Fibre) (code : ErrCode) (l : Lsp) (b : NodeId) (Q : Msg → Type 0) where
  -- for a leg of the LSP that is hit, and whose previous node this is
  abbrev ToldOf : Leg → Type 0
  ToldOf g =
      same_lsp g.lsp l ≡ true → is_on g.in_fibre f ≡ true → (h : Neighbour) → previous g ≡ Some h → h.node.0 ≡ b.0 →
      Q (Notify g.lsp g.egress p.id f.link code)

  told_to : (g : Leg) (h : Option Neighbour) → previous g ≡ h → ToldOf g → is_on g.in_fibre f ≡ true →
      Each Q (notices_of l (sent_to b.0 (notify_to p f code g h)))
  told_to g None before told on = tt
  told_to g (Some h) before told on = go (nat_eq h.node.0 b.0) (same_lsp g.lsp l) refl refl
    where
      go : (x y : Bool) → nat_eq h.node.0 b.0 ≡ x → same_lsp g.lsp l ≡ y →
          Each Q (notices_of l (map (λ o. o.msg)
          (cond x (to_node h.node (Notify g.lsp g.egress p.id f.link code) ∷ []) [])))
      go false y e own = tt
      go true false e own = rw own tt
      go true true e own =
          let there : h.node.0 ≡ b.0 = grind arith in rw own (told own on h before there, tt)

  told_each : (legs : List Leg) → AllByRecursion ToldOf legs →
      Each Q (notices_of l (sent_to b.0 (notices p f code legs)))
  told_each [] told = tt
  told_each (g ∷ legs) told =
      subst (Each Q)
      (sym (ap (notices_of l) (sent-then b.0 (notice_of p f code g) (notices p f code legs)) ∙
      filter-append _ (sent_to b.0 (notice_of p f code g)) (sent_to b.0 (notices p f code legs))))
      (each-append Q (notices_of l (sent_to b.0 (notice_of p f code g)))
      (notices_of l (sent_to b.0 (notices p f code legs)))
      (if_cases (λ outs. Each Q (notices_of l (sent_to b.0 outs))) (is_hit f g) _ _
      (λ hit. told_to g (previous g) refl told.0 (and-left (is_on g.in_fibre f) _ hit)) (λ hit. tt))
      (told_each legs told.1))

pub none-each : (ms : List Msg) → Each (λ m. ⊥) ms → ms ≡ []
none-each [] each = refl
none-each (m ∷ ms) each = absurd each.0

-- each leg of a node is the one of its LSP
abbrev pub EachStands : NodeState → Type 0
EachStands s = AllByRecursion (λ g. find_leg g.lsp s.legs ≡ Some g) s.legs

same_links : (f g : Fibre) → same_fibre f g ≡ true → g.link ≡ f.link
same_links f g same =
    let test = and-left (nat_eq f.link.0 g.link.0) (same_bool f.forward g.forward) same in
    let number : g.link.0 ≡ f.link.0 = grind arith in
    λ i. record { 0 = number i }

module _ (t : Network) (s : Mesh) (n : NodeId) (o : Routes) (f : Fibre) (code : ErrCode) (down : Bool)
    (tells : reported code ≡ Some down) (all : EachStands (s.nodes n.0)) where
  abbrev place : LocalNode
  place = local_node t n

  abbrev outs : List Out
  outs = notices (local_node t n) f code (s.nodes n.0).legs

  -- what a leg of the route tells
  at_place : (l : Lsp) (q : Purpose) (p : Plan) (i : ℕ) (g : Leg) (b : NodeId) → i ≤ hops p → n ≡ node_at p i →
      LegFitsPlan t q l p i g → is_on g.in_fibre f ≡ true → (h : Neighbour) → previous g ≡ Some h → h.node.0 ≡ b.0 →
      ComesUp p n b (Notify g.lsp g.egress n f.link code)
  at_place l q p zero g b small at_n fits on h before to =
      absurd (let none = previous_none t q l p g fits in cc (none, before))
  at_place l q p (suc i) g b small at_n fits on h before to =
      let is : h ≡ record { node = node_at p i; fibre = fibre_at t p i } =
      (let there = previous_is t q l p i g fits in cc (before, there)) in
      let same : same_fibre (fibre_at t p i) f ≡ true = (let fibre = fits.in_fibre in rw fibre at on) in
      record {
        place = i;
        below = omega arith;
        from = ap (λ (m : NodeId). m.0) at_n;
        to = sym to ∙ ap (λ (k : Neighbour). k.node.0) is;
        names = record {
          place = i;
          beyond = omega arith;
          within = omega arith;
          node = at_n;
          link = same_links (fibre_at t p i) f same;
          down = down;
          tells = tells;
        };
      }

  told_fits : (l : Lsp) (q : Purpose) (p : Plan) → Planned t s o l q p → (b : NodeId) →
      Each (ComesUp p n b) (notices_of l (sent_to b.0 outs))
  told_fits l q p pl b =
      told_each place f code l b (ComesUp p n b) (s.nodes n.0).legs
      (all-then (λ g. find_leg g.lsp (s.nodes n.0).legs ≡ Some g) (ToldOf place f code l b (ComesUp p n b))
      (s.nodes n.0).legs
      (λ g found own on h before to.
      let here : leg_at s l n ≡ Some g =
      subst (λ k. find_leg k (s.nodes n.0).legs ≡ Some g) (same_lsp-eq g.lsp l own) found in
      elim (pl.chain.legs n) [
        | inl none ↦ absurd (cc (none, here))
        | inr (i, small, at_n) ↦ (let is = same-node n (node_at p i) at_n in
            let fits : LegFitsPlan t q l p i g = rw (← is, here) at (pl.chain.fits i small) in
            at_place l q p i g b small is fits on h before to)
      ]) all)

  told_none : (l : Lsp) → ((m : NodeId) → leg_at s l m ≡ None) → (b : NodeId) →
      Each (λ m. ⊥) (notices_of l (sent_to b.0 outs))
  told_none l gone b =
      told_each place f code l b (λ m. ⊥) (s.nodes n.0).legs
      (all-then (λ g. find_leg g.lsp (s.nodes n.0).legs ≡ Some g) (ToldOf place f code l b (λ m. ⊥))
      (s.nodes n.0).legs
      (λ g found own on h before to.
      let here : leg_at s l n ≡ Some g =
      subst (λ k. find_leg k (s.nodes n.0).legs ≡ Some g) (same_lsp-eq g.lsp l own) found in
      let none = gone n in cc (none, here)) all)

  module _ (fibres : List Fibre) where
    abbrev answer : Answer
    answer = knows_down (local_node t n) (s.nodes n.0) f code fibres

    only : OnlyNotifies answer
    only = record { legs = refl; numbers = refl; sent = all_notices place f code (s.nodes n.0).legs }

    stays : (l : Lsp) (c : Option (List Step)) → Follows t s o l c → NoticesStay t s (commit s n.0 answer) o l c
    stays l None blank = λ x b. go x b (nat_eq x.0 n.0) refl
      where
        go : (x b : NodeId) (y : Bool) → nat_eq x.0 n.0 ≡ y → notices_between (commit s n.0 answer) l x b ≡ []
        go x b true e =
            let number : x.0 ≡ n.0 = grind arith in
            rw number (notices-from s n b l answer ∙
            rw (blank.notices n b, none-each _ (told_none l blank.legs b)) refl)
        go x b false e = rw e (blank.notices x b)
    stays l (Some route) follow = λ e q pl.
        notices_sent s n answer l (plan route e) pl.notices (told_fits l q (plan route e) pl)

    pub told_stepped : EachFollows t s o → EachStepped t s n o (knows_down (local_node t n) (s.nodes n.0) f code fibres)
    told_stepped follows l =
        stepped_none t s n o l answer
        (follows_noticed t s (commit s n.0 answer) o l (o l) (still_notified s n answer l only)
        (stays l (o l) (follows l)) (follows l))
        (notifies-begin_none l answer.sent only.sent)

module _ (t : Network) (s : Mesh) (n : NodeId) (o : Routes) (follows : EachFollows t s o)
    (all : EachStands (s.nodes n.0)) where
  nothing_stepped : EachStepped t s n o nothing
  nothing_stepped = stepped_quiet t s n o nothing follows (record { legs = refl; sent = refl; numbers = refl })

  pub alarm_stepped : (f : Fibre) → EachStepped t s n o (on_alarm (local_node t n) (s.nodes n.0) f)
  alarm_stepped f =
      if_cases (EachStepped t s n o)
      (enters (local_node t n) f (own_link (local_node t n) f.link) && not (has_fibre (s.nodes n.0).down f)) _ _
      (λ h. told_stepped t s n o f fibre_down_code true refl all ((s.nodes n.0).down ++ f ∷ []) follows)
      (λ h. nothing_stepped)

  pub clear_stepped : (f : Fibre) → EachStepped t s n o (on_clear (local_node t n) (s.nodes n.0) f)
  clear_stepped f =
      if_cases (EachStepped t s n o)
      (enters (local_node t n) f (own_link (local_node t n) f.link) && has_fibre (s.nodes n.0).down f) _ _
      (λ h. told_stepped t s n o f fibre_up_code false refl all (without_fibre f (s.nodes n.0).down) follows)
      (λ h. nothing_stepped)
