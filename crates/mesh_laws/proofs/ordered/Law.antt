-- What is carried along a run of each call, each desk and what nodes know to be down: a call is that of a posted
-- setup, and went over the route that this gives; its cause and its ticks fit its state, and each fibre known to be
-- down comes in.
use Rattle.std.proofs.{Common.{◌≡◌, ℕ, Bool, true, false, cond, nat_eq, List, [], ◌∷◌, ◌++◌, drop, refl, sym, subst, arith, inl, inr}, lemmas.List.Elements.All-from_recursion, ByRecursion.All-append}
use Rattle.std.specs.{Prelude.None, List.AllByRecursion}
use Rattle.ason_base.specs.{declared.commands.Command.Command, declared.commands.Command.TheVariants.{Setup, Release, Protect, Retry, Revert, Fail, Repair}, declared.commands.DeskItem.DeskItem, declared.commands.DeskItem.TheVariants.{Order, Alarm, Clear}, declared.ids.Lsp.Lsp, declared.ids.NodeId.NodeId, Network.{Network, find_link}}
use Rattle.mesh_rules.specs.{declared.events.MeshEvent.MeshEvent, declared.events.MeshEvent.TheVariants.{Take, Desk, Tick, Learn, Post}, Changes.{Answer, changed}, Events.{IsRun, after, first_route, on_first, on_first_item, or_route, posted, route_of, sent_at_ingress, step}, Failures.{with_group, without_group}, Learnt.on_link, LocalNodes.local_node, Machine.{Mesh, commit, start, without_first, without_item}, Waits.on_tick}
use Rattle.mesh_nodes.proofs.{CallList.all-calls_found, Cases.if_cases}
use Rattle.lsp_laws.specs.CallLaw.{EveryCallIsTidy, IsTidy}
use Rattle.lsp_laws.proofs.{nodes.CallChanges.{ArePut, EachCall, each-after}, nodes.Facts.MeshFacts, nodes.NodeRuns.{facts-hold, facts-start, facts-step}, hops.Stepped.{grown, grown-grow}, hops.HopLaws.{carried, step_facts}, hops.Planned.{EachFollows, Grow, Routes, or_assoc, or_none}, hops.Run.{Carried, step_carries, step_routes}}
use Rattle.mesh_laws.specs.{KnownLaw.{ComesIn, EveryKnownFibreComesIn}, OrderLaw.{EveryCallIsOrdered, IsOrdered, WasPosted}}
use Rattle.mesh_laws.proofs.{ordered.Ways.{KeepWays, first-keep, first_item-keep, link-keep, same-way, tick-keep}, ordered.Steps.{AreCallsKept, IsCallKept, carried-failed, first-puts, first_item-puts, grown-kept, link-puts, ticks-put}, ordered.Known.{first-knows, first_item-knows, link-knows, tick-knows}}

-- all is the whole run
module _ (t : Network) (all : List MeshEvent) where
  -- an order was posted
  abbrev IsPosted : DeskItem → Type 0
  IsPosted (Order c) = WasPosted c all
  IsPosted (Alarm f) = Unit {0}
  IsPosted (Clear f) = Unit {0}

  one-more : (s : Mesh) (m : ℕ) (c : Command) → WasPosted c all → (o : Routes) → AreCallsKept t all s o → (n : ℕ) →
      AllByRecursion IsPosted (cond (nat_eq n m) (s.desks n ++ Order c ∷ []) (s.desks n))
  one-more s m c was o carried n =
      if_cases (AllByRecursion IsPosted) (nat_eq n m) _ _
      (λ e. All-append IsPosted (s.desks n) (Order c ∷ []) (carried.desks n) (was, tt)) (λ e. carried.desks n)

  carried-posted : (s : Mesh) (c : Command) → WasPosted c all → (o : Routes) → AreCallsKept t all s o →
      AreCallsKept t all (posted t s c) o
  carried-posted s (Setup k from to protected both via backup) was o carried = record {
    calls = carried.calls;
    desks = one-more s from.0 (Setup k from to protected both via backup) was o carried;
    down = carried.down;
  }
  carried-posted s (Release k from) was o carried =
      record { calls = carried.calls; desks = one-more s from.0 (Release k from) was o carried; down = carried.down }
  carried-posted s (Protect k from) was o carried =
      record { calls = carried.calls; desks = one-more s from.0 (Protect k from) was o carried; down = carried.down }
  carried-posted s (Retry k from) was o carried =
      record { calls = carried.calls; desks = one-more s from.0 (Retry k from) was o carried; down = carried.down }
  carried-posted s (Revert k from) was o carried =
      record { calls = carried.calls; desks = one-more s from.0 (Revert k from) was o carried; down = carried.down }
  carried-posted s (Fail g) was o carried = carried-failed t all s (with_group g s.failed) o carried
  carried-posted s (Repair g) was o carried = carried-failed t all s (without_group g s.failed) o carried

  -- an answer is carried out at the node n
  carried-commit : (s : Mesh) (n : NodeId) (a : Answer) (o o' : Routes) → Grow o o' →
      ArePut (IsCallKept t all o' n.0 (changed (s.nodes n.0) a).legs) a.calls → KeepWays (s.nodes n.0) a →
      AllByRecursion (ComesIn (local_node t n)) (changed (s.nodes n.0) a).down → AreCallsKept t all s o →
      AreCallsKept t all (commit s n.0 a) o'
  carried-commit s n a o o' grow puts ways knows carried = record {
    calls = λ m. calls m (nat_eq m n.0) refl;
    desks = carried.desks;
    down = λ m. down m (nat_eq m.0 n.0) refl;
  }
    where
      calls : (m : ℕ) (b : Bool) → nat_eq m n.0 ≡ b →
          EachCall (IsCallKept t all o' m (cond b (changed (s.nodes m) a) (s.nodes m)).legs)
          (cond b (changed (s.nodes m) a) (s.nodes m)).calls
      calls m true e =
          let is : m ≡ n.0 = grind arith in
          each-after (IsCallKept t all o' m (changed (s.nodes m) a).legs) a.calls (s.nodes m).calls
          (subst (λ x. ArePut (IsCallKept t all o' x (changed (s.nodes x) a).legs) a.calls) (sym is) puts)
          (grown-kept t all (s.nodes m) o o' m (changed (s.nodes m) a).legs grow (carried.calls m)
          (subst (λ x. KeepWays (s.nodes x) a) (sym is) ways))
      calls m false e =
          grown-kept t all (s.nodes m) o o' m (s.nodes m).legs grow (carried.calls m)
          (λ k c found. same-way (s.nodes m).legs c)

      down : (m : NodeId) (b : Bool) → nat_eq m.0 n.0 ≡ b →
          AllByRecursion (ComesIn (local_node t m)) (cond b (changed (s.nodes m.0) a) (s.nodes m.0)).down
      down m true e =
          let number : n.0 ≡ m.0 = grind arith in
          let is : n ≡ m = (λ i. record { 0 = number i }) in
          subst (λ x. AllByRecursion (ComesIn (local_node t x)) (changed (s.nodes x.0) a).down) is knows
      down m false e = carried.down m

  less : (s : Mesh) (n m : ℕ) (o : Routes) → AreCallsKept t all s o →
      AllByRecursion IsPosted (cond (nat_eq m n) (drop 1 (s.desks m)) (s.desks m))
  less s n m o carried =
      if_cases (AllByRecursion IsPosted) (nat_eq m n) _ _ (λ e. rest (s.desks m) (carried.desks m))
      (λ e. carried.desks m)
    where
      rest : (items : List DeskItem) → AllByRecursion IsPosted items → AllByRecursion IsPosted (drop 1 items)
      rest [] were = tt
      rest (i ∷ items) were = were.1

  carried-step : (s : Mesh) (e : MeshEvent) (o : Routes) → ((c : Command) → e ≡ Post c → WasPosted c all) →
      EachFollows t s o → MeshFacts t s → AreCallsKept t all s o → AreCallsKept t all (step t s e) (step_routes t s e o)
  carried-step s (Take d u) o was f facts carried =
      let o' : Routes = step_routes t s (Take d u) o in
      let grow : Grow o o' = λ l route sent. rw sent refl in
      carried-commit (without_first s u.0 d.0) d (on_first (local_node t d) (s.nodes d.0) u (s.mail u.0 d.0)) o o'
      grow
      (first-puts t all s d o f (facts.node d.0) (carried.calls d.0) o' grow u (s.mail u.0 d.0))
      (first-keep t d (s.nodes d.0) (facts.node d.0) u (s.mail u.0 d.0))
      (first-knows (local_node t d) (s.nodes d.0) (carried.down d) u (s.mail u.0 d.0))
      (record { calls = carried.calls; desks = carried.desks; down = carried.down })
  carried-step s (Desk n) o was f facts carried =
      let a = on_first_item (local_node t n) (s.nodes n.0) (s.desks n.0) in
      carried-commit (without_item s n.0) n a o (grown n o a) (grown-grow n o a)
      (first_item-puts t all s n o f (facts.node n.0) (carried.calls n.0) (s.desks n.0) (facts.desk n.0)
      (carried.desks n.0))
      (first_item-keep t n (s.nodes n.0) (facts.node n.0) (s.desks n.0))
      (first_item-knows (local_node t n) (s.nodes n.0) (carried.down n) (s.desks n.0))
      (record { calls = carried.calls; desks = λ m. less s n.0 m o carried; down = carried.down })
  carried-step s (Tick n) o was f facts carried =
      let a = on_tick (local_node t n) (s.nodes n.0) in
      carried-commit s n a o (grown n o a) (grown-grow n o a)
      (ticks-put t all s n o f (facts.node n.0) (carried.calls n.0))
      (tick-keep t n (s.nodes n.0) (facts.node n.0))
      (tick-knows (local_node t n) (s.nodes n.0) (carried.down n)) carried
  carried-step s (Learn n k) o was f facts carried =
      let o' : Routes = λ l. or_route (o l) None in
      carried-commit s n (on_link (local_node t n) (s.nodes n.0) (find_link t k)) o o' (λ l route sent. rw sent refl)
      (link-puts t all s n o f (facts.node n.0) (carried.calls n.0) o' (find_link t k))
      (link-keep t n (s.nodes n.0) (facts.node n.0) (find_link t k))
      (link-knows (local_node t n) (s.nodes n.0) (carried.down n) (find_link t k)) carried
  carried-step s (Post c) o was f facts carried =
      let o' : Routes = λ l. or_route (o l) None in
      carried-posted s c (was c refl) o' (record {
        calls = λ n. grown-kept t all (s.nodes n) o o' n (s.nodes n).legs (λ l route sent. rw sent refl)
            (carried.calls n) (λ k c found. same-way (s.nodes n).legs c);
        desks = carried.desks;
        down = carried.down;
      })

  same-routes : (s : Mesh) (o o' : Routes) → ((l : Lsp) → o l ≡ o' l) → AreCallsKept t all s o → AreCallsKept t all s o'
  same-routes s o o' same kept = let routes : o ≡ o' = λ i l. same l i in subst (AreCallsKept t all s) routes kept

  carried-run : (s : Mesh) (events : List MeshEvent) (o : Routes) →
      ((c : Command) → WasPosted c events → WasPosted c all) → MeshFacts t s → Carried t s o → AreCallsKept t all s o →
      IsRun t s events → AreCallsKept t all (after t s events) (λ l. or_route (o l) (route_of t s events l))
  carried-run s [] o were facts with kept run =
      same-routes s o (λ l. or_route (o l) None) (λ l. sym (or_none (o l))) kept
  carried-run s (e ∷ events) o were facts with kept run =
      same-routes (after t (step t s e) events) _ _
      (λ l. or_assoc (o l) (first_route l (sent_at_ingress t s e l)) (route_of t (step t s e) events l))
      (carried-run (step t s e) events (step_routes t s e o) (λ c was. were c (inr was))
      (facts-step t s e run.0 facts)
      (step_carries t s e o run.0 (step_facts t s facts) with)
      (carried-step s e o (λ c is. were c (inl is)) with.follows facts kept) run.1)

  carried-start : AreCallsKept t all start (λ l. None)
  carried-start = record { calls = λ n k c found. absurd (cc found); desks = λ n. tt; down = λ n. tt }

carried-hold : (t : Network) (events : List MeshEvent) → IsRun t start events →
    AreCallsKept t events (after t start events) (route_of t start events)
carried-hold t events run =
    carried-run t events start events (λ l. None) (λ c was. was) (facts-start t) (carried t [] tt)
    (carried-start t events) run

pub every_tidy : EveryCallIsTidy
every_tidy t events run n =
    let calls = ((after t start events).nodes n).calls in
    let carried = carried-hold t events run in
    All-from_recursion IsTidy calls
    (all-calls_found IsTidy calls ((facts-hold t events run).node n).calls_rise
    (λ k c found. (carried.calls n k c found).tidy))

pub every_ordered : EveryCallIsOrdered
every_ordered t events run n =
    let calls = ((after t start events).nodes n).calls in
    let legs = ((after t start events).nodes n).legs in
    let carried = carried-hold t events run in
    All-from_recursion (IsOrdered (route_of t start events) events n legs) calls
    (all-calls_found (IsOrdered (route_of t start events) events n legs) calls
    ((facts-hold t events run).node n).calls_rise
    (λ k c found. (carried.calls n k c found).order))

pub every_known : EveryKnownFibreComesIn
every_known t events run n =
    All-from_recursion (ComesIn (local_node t n)) ((after t start events).nodes n.0).down
    ((carried-hold t events run).down n)
