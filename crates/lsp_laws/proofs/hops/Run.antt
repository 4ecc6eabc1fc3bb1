-- Each LSP with its route in every state of every run.
use Rattle.std.proofs.Common.{◌≡◌, ℕ, true, nat_eq, List, [], ◌∷◌, refl, sym, subst}
use Rattle.std.specs.Prelude.{◌&&◌, not, Option, Some, None}
use Rattle.ason_base.specs.{declared.network.LinkSpec.LinkSpec, Network.{Network, find_link, is_node_id, row_of}, declared.ids.CallNo.CallNo, declared.ids.Lsp.Lsp, declared.ids.NodeId.NodeId, declared.steps.Step.Step, declared.commands.Command.Command, declared.commands.Command.TheVariants.{Setup, Release, Protect, Retry, Revert, Fail, Repair}, declared.commands.DeskItem.DeskItem, declared.commands.DeskItem.TheVariants.{Order, Alarm, Clear}, declared.tables.CallRec.CallRec, declared.tables.Leg.Leg, Routes.makes_route}
use Rattle.ason_base.proofs.Bools.{and-left, and-right}
use Rattle.mesh_rules.specs.{declared.events.MeshEvent.MeshEvent, declared.events.MeshEvent.TheVariants.{Take, Desk, Tick, Learn, Post}, Changes.{Answer, learns, nothing}, KnownRows.{has_row, known_rows}, Learnt.on_link, LocalNodes.{LocalNode, local_node}, State.NodeState, Calls.{call_with, find_call, is_bare, is_stuck, is_turned}, Legs.{is_work, leg_of}, Retries.retry_with, Reverts.revert_with, Turns.has_any, Waits.on_tick, Protects.{protect_with, protects}, Orders.{on_order, on_item}, Commands.{has_way, is_searchable, is_valid}, Machine.{Mesh, commit}, Events.{is_enabled, on_first_item, posted, step, IsRun, after, first_route, or_route, sent_at_ingress, route_of}}
use Rattle.lsp_laws.specs.HopLaw.{leg_at}
use Rattle.mesh_nodes.specs.{Order.CallsRise, Routes.AreRowsOf}
use Rattle.mesh_nodes.proofs.{CallList.{all-calls_found, called-found}, Cases.if_cases}
use Rattle.lsp_laws.proofs.{hops.GivenRoutes.EachGivenBeside, hops.GivenBackups.given-step, hops.NoticesTold.{EachStands, alarm_stepped, clear_stepped}, hops.Moved.stays_stepped, hops.Ticked.{AreCallsApart, all_ticked_stays, turned_is}, hops.Turned.{BackFits, go_back_stepped, turn_stepped}, hops.Own.IsQuietAnswer, hops.Quiet.same_quiet, hops.Planned.{Routes, EachFollows, follows_same, or_assoc, or_none}, hops.TakenSteps.CallsBackHere, hops.Traced.traced_take, hops.Stepped.EachStepped, hops.Begun.{stepped_nothing, setup_stepped}, hops.Paired.{CallsMayPair, MayPair, pair_stepped, whole-route}, hops.Released.{CallStands, release_stepped}, hops.DeskSteps.{desk_same, posted_same}}

-- What a step needs to know: of the calls and legs of each node, of the items on each desk, and of the rows that a node
-- learnt

abbrev pub ItemFits : Network → DeskItem → Type 0
ItemFits t (Order c) = is_valid t c ≡ true
ItemFits t (Alarm f) = Unit {0}
ItemFits t (Clear f) = Unit {0}

-- a call of the node whose working leg this is, and which may be given a backup
pub record WorksFor (t : Network) (s : Mesh) (n : NodeId) (c : CallRec) (w : Leg) : Type 0 where
  pub number : CallNo
  pub found : find_call number (s.nodes n.0).calls ≡ Some c
  pub work : c.work ≡ Some w.lsp
  pub egress : w.egress ≡ c.egress
  pub searched : c.backup ≡ None → is_searchable t ≡ true

-- a call that an order protects: its working LSP begins here
pub record CanBeProtected (t : Network) (s : Mesh) (n : NodeId) (c : CallRec) (w : Leg) : Type 0 where
  pub begins : w.lsp.ingress ≡ n
  pub stands : leg_at s w.lsp n ≡ Some w
  pub works : WorksFor t s n c w

pub record StepFacts (t : Network) (s : Mesh) : Type 0 where
  pub call : (n : ℕ) (k : CallNo) (c : CallRec) → find_call k (s.nodes n).calls ≡ Some c → CallStands n (s.nodes n) c
  pub rise : (n : ℕ) → CallsRise (s.nodes n).calls
  pub pair : (n : NodeId) (g : Leg) (c : CallRec) → leg_at s g.lsp n ≡ Some g →
      call_with g.lsp (s.nodes n.0).calls ≡ Some c → is_work g.role ≡ true → c.protected ≡ true → WorksFor t s n c g
  pub protect : (n : NodeId) (k : CallNo) (c : CallRec) (w : Leg) → find_call k (s.nodes n.0).calls ≡ Some c →
      leg_of c.work (s.nodes n.0).legs ≡ Some w → is_searchable t ≡ true → CanBeProtected t s n c w
  pub backs : (n : NodeId) (k : CallNo) (c : CallRec) → find_call k (s.nodes n.0).calls ≡ Some c →
      BackFits s n c.state (leg_of c.back (s.nodes n.0).legs)
  pub apart : (n : ℕ) → AreCallsApart (s.nodes n).legs (s.nodes n).calls
  pub stand : (n : ℕ) → EachStands (s.nodes n)
  pub desk : (n : ℕ) (i : DeskItem) (items : List DeskItem) → s.desks n ≡ i ∷ items → ItemFits t i
  pub learnt : (n : ℕ) → AreRowsOf t (s.nodes n).learnt

pub may_pair : (t : Network) (s : Mesh) (o : Routes) (n : NodeId) (c : CallRec) (w : Leg) → EachGivenBeside t s o →
    WorksFor t s n c w → MayPair t n o c w
may_pair t s o n c w each works = record {
  given = λ primary route sent given.
      let b = (each n works.number c works.found).beside w.lsp route works.work given in
      let one : b.0 ≡ primary = (let was = b.1 in cc (was, sent)) in
      rw (works.egress, ← one) b.2;
  searched = works.searched;
}

pub calls_may_pair : (t : Network) (s : Mesh) (o : Routes) → StepFacts t s → EachGivenBeside t s o → CallsMayPair t s o
calls_may_pair t s o facts each n g c here called work protected =
    may_pair t s o n c g each (facts.pair n g c here called work protected)

pub backs_here : (t : Network) (s : Mesh) → StepFacts t s → CallsBackHere s
backs_here t s facts n l c called =
    facts.backs n c.call c (called-found l (s.nodes n.0).calls c (facts.rise n.0) called)

-- One item of a desk

given : (t : Network) (from to : NodeId) (via : Option (List Step)) → has_way t from to via ≡ true →
    (route : List Step) → via ≡ Some route → makes_route t from to route ≡ true
given t from to None e route q = cc
given t from to (Some r) e route q = let is : r ≡ route = cc in rw (← is) e

searched : (t : Network) (from to : NodeId) (via : Option (List Step)) → has_way t from to via ≡ true → via ≡ None →
    is_searchable t ≡ true
searched t from to None e q = e
searched t from to (Some r) e q = absurd (cc q)

module _ (t : Network) (s : Mesh) (o : Routes) (n : NodeId) (f : EachFollows t s o) (facts : StepFacts t s)
    (each : EachGivenBeside t s o) where
  abbrev Steps : Answer → Type 0
  Steps a = EachStepped t s n o a

  none_stepped : Steps nothing
  none_stepped = stepped_nothing t s n o f

  protects_stepped : (k : CallNo) (c : CallRec) → find_call k (s.nodes n.0).calls ≡ Some c → is_searchable t ≡ true →
      (w : Option Leg) → leg_of c.work (s.nodes n.0).legs ≡ w → Steps (protects (local_node t n) (s.nodes n.0) c w)
  protects_stepped k c found searchable None e = none_stepped
  protects_stepped k c found searchable (Some w) e =
      let can = facts.protect n k c w found e searchable in
      pair_stepped t s n o f (s.nodes n.0) refl (facts.learnt n.0) c w can.begins
      (may_pair t s o n c w each can.works)
      (whole-route t s o w.lsp n w (o w.lsp) (f w.lsp) can.begins can.stands)

  protect_stepped : (k : CallNo) (from : NodeId) → is_searchable t ≡ true → (c : Option CallRec) →
      find_call k (s.nodes n.0).calls ≡ c → Steps (protect_with (local_node t n) (s.nodes n.0) from c)
  protect_stepped k from searchable None e = none_stepped
  protect_stepped k from searchable (Some c) e =
      if_cases Steps (nat_eq from.0 n.0 && is_bare c.state) _ _
      (λ h. protects_stepped k c e searchable (leg_of c.work (s.nodes n.0).legs) refl) (λ h. none_stepped)

  retry_stepped : (k : CallNo) (from : NodeId) (c : Option CallRec) → find_call k (s.nodes n.0).calls ≡ c →
      Steps (retry_with (local_node t n) (s.nodes n.0) from c)
  retry_stepped k from None e = none_stepped
  retry_stepped k from (Some c) e =
      if_cases Steps (nat_eq from.0 n.0) _ _
      (λ h. if_cases Steps (is_stuck c.state && (has_any c.work_reports && not (has_any c.back_reports))) _ _
      (λ stuck. turn_stepped t s n o f (s.nodes n.0).legs c (leg_of c.back (s.nodes n.0).legs)
      (λ b here. (facts.backs n k c e b here).begins))
      (λ stuck. none_stepped))
      (λ h. none_stepped)

  revert_stepped : (k : CallNo) (from : NodeId) (c : Option CallRec) → find_call k (s.nodes n.0).calls ≡ c →
      Steps (revert_with (local_node t n) (s.nodes n.0) from c)
  revert_stepped k from None e = none_stepped
  revert_stepped k from (Some c) e =
      if_cases Steps (nat_eq from.0 n.0) _ _
      (λ h. if_cases Steps (is_turned c.state && not (has_any c.work_reports)) _ _
      (λ waits. go_back_stepped t s n o f c (leg_of c.back (s.nodes n.0).legs)
      (turned_is c.state (and-left (is_turned c.state) _ waits)) (facts.backs n k c e))
      (λ waits. none_stepped))
      (λ h. none_stepped)

  order_stepped : (c : Command) → is_valid t c ≡ true → Steps (on_order (local_node t n) (s.nodes n.0) c)
  order_stepped (Setup k from to protected both via backup) valid =
      setup_stepped t s n o f
      (record { call = k; from = from; egress = to; protected = protected; both = both; via = via; backup = backup })
      (given t from to via (and-right _ (has_way t from to via) (and-left _ _ valid)))
      (searched t from to via (and-right _ (has_way t from to via) (and-left _ _ valid))) (facts.learnt n.0)
      (find_call k (s.nodes n.0).calls)
  order_stepped (Release k from) valid =
      release_stepped t s o n f from (find_call k (s.nodes n.0).calls) (λ d e. facts.call n.0 k d e)
  order_stepped (Protect k from) valid =
      protect_stepped k from (and-right (is_node_id t.nodes from) _ valid) (find_call k (s.nodes n.0).calls) refl
  order_stepped (Retry k from) valid = retry_stepped k from (find_call k (s.nodes n.0).calls) refl
  order_stepped (Revert k from) valid = revert_stepped k from (find_call k (s.nodes n.0).calls) refl
  order_stepped (Fail g) valid = none_stepped
  order_stepped (Repair g) valid = none_stepped

  item_stepped : (i : DeskItem) → ItemFits t i → Steps (on_item (local_node t n) (s.nodes n.0) i)
  item_stepped (Order c) fits = order_stepped c fits
  item_stepped (Alarm g) fits = alarm_stepped t s n o f (facts.stand n.0) g
  item_stepped (Clear g) fits = clear_stepped t s n o f (facts.stand n.0) g

  first_stepped : (items : List DeskItem) → s.desks n.0 ≡ items →
      Steps (on_first_item (local_node t n) (s.nodes n.0) items)
  first_stepped [] is = none_stepped
  first_stepped (i ∷ items) is = item_stepped i (facts.desk n.0 i items is)

  -- A tick

  tick_stepped : Steps (on_tick (local_node t n) (s.nodes n.0))
  tick_stepped =
      let calls = (s.nodes n.0).calls in
      let legs = (s.nodes n.0).legs in
      stays_stepped t s n o (on_tick (local_node t n) (s.nodes n.0))
      (all_ticked_stays t n o t.wait legs calls s f
      (all-calls_found (λ c. BackFits s n c.state (leg_of c.back legs)) calls (facts.rise n.0) (facts.backs n))
      (facts.apart n.0))

-- a row that is learnt leaves the legs and messages
pub link_quiet : (p : LocalNode) (s : NodeState) (found : Option LinkSpec) → IsQuietAnswer (on_link p s found)
link_quiet p s None = record { legs = refl; sent = refl; numbers = refl }
link_quiet p s (Some l) =
    if_cases IsQuietAnswer (has_row (known_rows p s) l.id) nothing (learns (row_of l))
    (λ h. record { legs = refl; sent = refl; numbers = refl })
    (λ h. record { legs = refl; sent = refl; numbers = refl })

-- the same routes, written otherwise
same_routes : (t : Network) (s : Mesh) (o o' : Routes) → ((l : Lsp) → o l ≡ o' l) → EachFollows t s o →
    EachFollows t s o'
same_routes t s o o' same f = let all : o ≡ o' = λ i l. same l i in subst (EachFollows t s) all f

-- the routes of the LSPs after a step
abbrev pub step_routes : Network → Mesh → MeshEvent → Routes → Routes
step_routes t s e o l = or_route (o l) (first_route l (sent_at_ingress t s e l))

unsent : (t : Network) (s : Mesh) (o : Routes) → EachFollows t s o → EachFollows t s (λ l. or_route (o l) None)
unsent t s o f = same_routes t s o (λ l. or_route (o l) None) (λ l. sym (or_none (o l))) f

-- each LSP with its route, and the backup routes that were given beside them
pub record Carried (t : Network) (s : Mesh) (o : Routes) : Type 0 where
  pub follows : EachFollows t s o
  pub given : EachGivenBeside t s o

same_carried : (t : Network) (s : Mesh) (o o' : Routes) → ((l : Lsp) → o l ≡ o' l) → Carried t s o → Carried t s o'
same_carried t s o o' same f = let all : o ≡ o' = λ i l. same l i in subst (Carried t s) all f

step_follows : (t : Network) (s : Mesh) (e : MeshEvent) (o : Routes) → is_enabled t s e ≡ true →
    StepFacts t s → Carried t s o → EachFollows t (step t s e) (step_routes t s e o)
step_follows t s (Take d u) o enabled facts c l =
    (traced_take t s o d u (s.mail u.0 d.0) refl enabled (facts.learnt d.0) c.follows
    (calls_may_pair t s o facts c.given) (backs_here t s facts) l).follows
step_follows t s (Desk n) o enabled facts c l =
    let a = on_first_item (local_node t n) (s.nodes n.0) (s.desks n.0) in
    follows_same t (commit s n.0 a) (step t s (Desk n)) (step_routes t s (Desk n) o) l _ (desk_same t s n a l)
    (first_stepped t s o n c.follows facts c.given (s.desks n.0) refl l).follows
step_follows t s (Tick n) o enabled facts c l = (tick_stepped t s o n c.follows facts c.given l).follows
step_follows t s (Learn n k) o enabled facts c l =
    let a = on_link (local_node t n) (s.nodes n.0) (find_link t k) in
    unsent t (step t s (Learn n k)) o (λ l. follows_same t s (commit s n.0 a) o l (o l)
    (same_quiet s n a l (link_quiet (local_node t n) (s.nodes n.0) (find_link t k))) (c.follows l)) l
step_follows t s (Post d) o enabled facts c l =
    unsent t (posted t s d) o (λ l. follows_same t s (posted t s d) o l (o l) (posted_same t s d l) (c.follows l)) l

pub step_carries : (t : Network) (s : Mesh) (e : MeshEvent) (o : Routes) → is_enabled t s e ≡ true →
    StepFacts t s → Carried t s o → Carried t (step t s e) (step_routes t s e o)
step_carries t s e o enabled facts c = record {
  follows = step_follows t s e o enabled facts c;
  given = given-step t s e o c.follows facts.rise (λ n d rest is. facts.desk n (Order d) rest is) c.given;
}

-- Facts that hold in every state, and that say what each step needs, carry this along a run.
pub follows_run : (t : Network) (Facts : Mesh → Type 0) → ((s : Mesh) → Facts s → StepFacts t s) →
    ((s : Mesh) (e : MeshEvent) → is_enabled t s e ≡ true → Facts s → Facts (step t s e)) →
    (s : Mesh) (events : List MeshEvent) → IsRun t s events → Facts s → (o : Routes) → Carried t s o →
    Carried t (after t s events) (λ l. or_route (o l) (route_of t s events l))
follows_run t Facts gives keeps s [] run facts o c =
    same_carried t s o (λ l. or_route (o l) None) (λ l. sym (or_none (o l))) c
follows_run t Facts gives keeps s (e ∷ es) run facts o c =
    same_carried t (after t (step t s e) es) _ _
    (λ l. or_assoc (o l) (first_route l (sent_at_ingress t s e l)) (route_of t (step t s e) es l))
    (follows_run t Facts gives keeps (step t s e) es run.1 (keeps s e run.0 facts) (step_routes t s e o)
    (step_carries t s e o run.0 (gives s facts) c))
