-- An order that a node handles does what it says, by cases of the rules.
use Rattle.std.proofs.{Common.{◌≡◌, ◌≢◌, Bool, true, false, not, nat_eq, List, ◌∷◌, refl, ap, ◌∙◌, subst, arith}, lemmas.Bool.{not-true, and_from}}
use Rattle.std.specs.Prelude.{◌⊎◌, ◌&&◌, Option, Some, None}
use Rattle.ason_base.specs.{Network.{IsTopology, Network}, Routes.makes_route, declared.calls.CallState.TheVariants.{Bare, Pairing, Guarded, Turning, Stuck}, declared.calls.Phase.TheVariants.{Held, Live}, declared.commands.Command.TheVariants.{Setup, Release, Protect, Retry, Revert, Fail, Repair}, declared.commands.DeskItem.DeskItem, declared.commands.DeskItem.TheVariants.{Order, Alarm, Clear}, declared.ids.CallNo.CallNo, declared.ids.NodeId.NodeId, declared.steps.Step.Step, declared.tables.CallRec.CallRec, declared.tables.Leg.Leg}
use Rattle.ason_base.proofs.{Bools.{and-left, and-right}, JoinedEnds.same-node}
use Rattle.mesh_rules.specs.{declared.events.MeshEvent.MeshEvent, declared.events.MeshEvent.TheVariants.Desk, Calls.{find_call, is_bare, is_stuck, is_turned}, Commands.{has_backup_way, has_way, is_valid}, Events.{IsRun, after, route_of, step}, Legs.leg_of, LocalNodes.local_node, Machine.start, Orders.on_item, Protects.{protect_with, protects}, Releases.releases, Retries.retry_with, Reverts.revert_with, Setups.is_followable, State.NodeState, Turns.{go_back, has_any, turn}}
use Rattle.mesh_nodes.proofs.{CallList.found-number, routes.Nodes.found-followed}
use Rattle.lsp_laws.specs.CallLaw.{phase_of}
use Rattle.lsp_laws.proofs.{nodes.Searches.every_search, nodes.States.{Row, bare-legs, row, stuck-legs, turned-legs}, nodes.NotifyKeeps.stuck-is, hops.Ticked.turned_is, nodes.OrderKeeps.bare-is, nodes.TurnedCalls.none-reported}
use Rattle.mesh_laws.specs.{ActsLaw.{BackupIsBusy, EveryOrderActs, IsSetUp, MayRetry, MayRevert, OrderActs}, CauseLaw.BackupCause}
use Rattle.mesh_laws.proofs.{acts.Given.given-followed, rested.Rested.phase-there, acts.Puts.renumber, acts.Tests.{some-any, any-some}, acts.Setups.setup-puts, acts.Pairs.{there-protects, may-pair}, acts.Turns.{held-turns, live-goes_back}, acts.Orders.{fits-desk, fit, stands-put, stays-so, by-test, release-gone, release-torn}}

-- a setup that is on a desk

away-of : (t : Network) (from to : NodeId) (protected : Bool) (via backup : Option (List Step)) (k : CallNo)
    (two : Bool) → is_valid t (Setup k from to protected two via backup) ≡ true → nat_eq from.0 to.0 ≡ false
away-of t from to protected via backup k two ok =
    not-true (nat_eq from.0 to.0) (and-right _ _ (and-left _ (has_way t from to via)
    (and-left _ (has_backup_way t from to protected via backup) ok)))

way-of : (t : Network) (from to : NodeId) (protected : Bool) (via backup : Option (List Step)) (k : CallNo)
    (two : Bool) → is_valid t (Setup k from to protected two via backup) ≡ true → has_way t from to via ≡ true
way-of t from to protected via backup k two ok =
    and-right _ _ (and-left _ (has_backup_way t from to protected via backup) ok)

backup-made : (t : Network) (from to : NodeId) (protected : Bool) (via : Option (List Step)) (route : List Step) →
    has_backup_way t from to protected via (Some route) ≡ true → makes_route t from to route ≡ true
backup-made t from to protected None route ok = absurd (let never = and-right protected _ ok in cc never)
backup-made t from to protected (Some via) route ok = and-left _ _ (and-right protected _ ok)

order-acts : (t : Network) (events : List MeshEvent) → IsTopology t → IsRun t start events → (n : NodeId)
    (i : DeskItem) (items : List DeskItem) → (after t start events).desks n.0 ≡ i ∷ items →
    OrderActs t (route_of t start events) (after t start events) (step t (after t start events) (Desk n)) n i
order-acts t events valid run n (Order (Setup k from to protected two via backup)) items first =
    let i : DeskItem = Order (Setup k from to protected two via backup) in
    let fits = fits-desk t events valid run n i items first in
    let here : from ≡ n = same-node from n fits.1 in
    let ok = fits.0 in
    let apart = away-of t from to protected via backup k two ok in
    let away : from.0 ≢ to.0 = (λ e. let test : nat_eq from.0 to.0 ≡ true = grind arith in cc (test, apart)) in
    record {
      new = λ none.
          stands-put t events valid run n i items first k
          (IsSetUp t ((after t start events).nodes n.0) n k to protected two via backup)
          (rw none (setup-puts t n ((after t start events).nodes n.0)
          (record { call = k; from = from; egress = to; protected = protected; both = two; via = via; backup = backup })
          (every_search t events n valid run) (and_from _ _ (same-number fits.1) (and_from _ _ (other-end fits.1 apart)
          (followable t valid n to protected via backup (subst (λ m. m.0 ≢ to.0) here away)
          (subst (λ m. has_backup_way t m to protected via backup ≡ true) here (and-right _ _ ok)))))
          (λ route is. given-followed t valid n to route (subst (λ m. m.0 ≢ to.0) here away)
          (subst (λ m. makes_route t m to route ≡ true) here
          (subst (λ o. has_way t from to o ≡ true) is (way-of t from to protected via backup k two ok))))
          (λ r is. found-followed (local_node t n) ((after t start events).nodes n.0) to r
          (every_search t events n valid run)
          (λ e. away (ap (λ (m : NodeId). m.0) (here ∙ e))) is)));
      known = λ c found. stays-so t events valid run n i items first (rw found refl);
    }
  where
    same-number : from.0 ≡ n.0 → nat_eq from.0 n.0 ≡ true
    same-number e = grind arith

    other-end : from.0 ≡ n.0 → nat_eq from.0 to.0 ≡ false → not (nat_eq to.0 n.0) ≡ true
    other-end e h = (let test : nat_eq to.0 n.0 ≡ false = grind arith in ap not test)

    followable : (t : Network) → IsTopology t → (n to : NodeId) (protected : Bool) (via o : Option (List Step)) →
        n.0 ≢ to.0 → has_backup_way t n to protected via o ≡ true → is_followable (local_node t n) o ≡ true
    followable t valid n to protected via None away ok = refl
    followable t valid n to protected via (Some route) away ok =
        given-followed t valid n to route away (backup-made t n to protected via route ok)
order-acts t events valid run n (Order (Release k from)) items first =
    let i : DeskItem = Order (Release k from) in
    let fits = fits-desk t events valid run n i items first in
    let here : nat_eq from.0 n.0 ≡ true = (let e = fits.1 in grind arith) in
    let is : (c : CallRec) → find_call k ((after t start events).nodes n.0).calls ≡ Some c →
    on_item (local_node t n) ((after t start events).nodes n.0) (Order (Release k from))
    ≡ releases ((after t start events).nodes n.0) c = (λ c found. rw (found, here) refl) in
    record {
      gone = go here is (find_call k ((after t start events).nodes n.0).calls) refl;
      torn = λ c l g found of there. release-torn t events valid run n i items first k c found (is c found) l g of there;
      unknown = λ none. stays-so t events valid run n i items first (rw none refl);
    }
  where
    go : nat_eq from.0 n.0 ≡ true → ((c : CallRec) → find_call k ((after t start events).nodes n.0).calls ≡ Some c →
        on_item (local_node t n) ((after t start events).nodes n.0) (Order (Release k from))
        ≡ releases ((after t start events).nodes n.0) c) →
        (o : Option CallRec) → find_call k ((after t start events).nodes n.0).calls ≡ o →
        find_call k ((step t (after t start events) (Desk n)).nodes n.0).calls ≡ None
    go here is None none =
        ap (λ (y : NodeState). find_call k y.calls)
        ((stays-so t events valid run n (Order (Release k from)) items first (rw none refl)).nodes n.0) ∙ none
    go here is (Some c) found =
        release-gone t events valid run n (Order (Release k from)) items first k c found (is c found)
order-acts t events valid run n (Order (Retry k from)) items first =
    let i : DeskItem = Order (Retry k from) in
    let fits = fits-desk t events valid run n i items first in
    let here : nat_eq from.0 n.0 ≡ true = (let e = fits.1 in grind arith) in
    by-test t events valid run n i items first k MayRetry
    (λ c d. (d.state ≡ Turning) ⊎ ((d.state ≡ Stuck) × BackupIsBusy ((after t start events).nodes n.0).legs c))
    (retry_with (local_node t n) ((after t start events).nodes n.0) from)
    (λ c. is_stuck c.state && (has_any c.work_reports && not (has_any c.back_reports)))
    (λ c. turn ((after t start events).nodes n.0).legs c (leg_of c.back ((after t start events).nodes n.0).legs))
    refl refl (λ c. rw here refl)
    (λ c may. and_from _ _ (ap is_stuck may.0) (and_from _ _ (some-any c.work_reports may.1)
    (let none = may.2 in rw none refl)))
    (λ c test. (
      stuck-is c.state (and-left _ _ test),
      any-some c.work_reports (and-left _ _ (and-right (is_stuck c.state) _ test)),
      none-reported c.back_reports (not-true _ (and-right (has_any c.work_reports) _ (and-right (is_stuck c.state) _ test))),
    ))
    (λ c found may.
    let legs : List Leg = ((after t start events).nodes n.0).legs in
    let its = fit t events valid run n i items first k c found in
    let phases = stuck-legs _ _ (subst (λ f. Row f (phase_of (leg_of c.work legs)) (phase_of (leg_of c.back legs)))
    may.0 (row c.state _ _ its.state)) in
    let leg = phase-there c.back legs Held phases.1 in
    renumber c.call k _ _ (found-number k ((after t start events).nodes n.0).calls c found)
    (held-turns legs c leg.0 leg.1 leg.2 leg.3 leg.4))
order-acts t events valid run n (Order (Revert k from)) items first =
    let i : DeskItem = Order (Revert k from) in
    let fits = fits-desk t events valid run n i items first in
    let here : nat_eq from.0 n.0 ≡ true = (let e = fits.1 in grind arith) in
    by-test t events valid run n i items first k MayRevert (λ c d. d.state ≡ Guarded)
    (revert_with (local_node t n) ((after t start events).nodes n.0) from)
    (λ c. is_turned c.state && not (has_any c.work_reports))
    (λ c. go_back c (leg_of c.back ((after t start events).nodes n.0).legs))
    refl refl (λ c. rw here refl)
    (λ c may. and_from _ _ (ap is_turned may.0) (let none = may.1 in rw none refl))
    (λ c test. (
      turned_is c.state (and-left _ _ test),
      none-reported c.work_reports (not-true _ (and-right (is_turned c.state) _ test)),
    ))
    (λ c found may.
    let legs : List Leg = ((after t start events).nodes n.0).legs in
    let its = fit t events valid run n i items first k c found in
    let phases = turned-legs _ _ (subst (λ f. Row f (phase_of (leg_of c.work legs)) (phase_of (leg_of c.back legs)))
    may.0 (row c.state _ _ its.state)) in
    let leg = phase-there c.back legs Live phases.1 in
    renumber c.call k _ _ (found-number k ((after t start events).nodes n.0).calls c found)
    (live-goes_back legs c leg.0 leg.1 leg.2 leg.3 leg.4))
order-acts t events valid run n (Order (Protect k from)) items first =
    let i : DeskItem = Order (Protect k from) in
    let fits = fits-desk t events valid run n i items first in
    let here : nat_eq from.0 n.0 ≡ true = (let e = fits.1 in grind arith) in
    by-test t events valid run n i items first k (λ c. c.state ≡ Bare)
    (λ c d. (d.state ≡ Pairing) ⊎ ((d.state ≡ Bare)
    × BackupCause t (route_of t start events) ((after t start events).nodes n.0) n c d.cause))
    (protect_with (local_node t n) ((after t start events).nodes n.0) from) (λ c. is_bare c.state)
    (λ c. protects (local_node t n) ((after t start events).nodes n.0) c
    (leg_of c.work ((after t start events).nodes n.0).legs))
    refl refl (λ c. rw here refl) (λ c may. ap is_bare may) (λ c test. bare-is c.state test)
    (λ c found may.
    let legs : List Leg = ((after t start events).nodes n.0).legs in
    let its = fit t events valid run n i items first k c found in
    let phases = bare-legs _ _ (subst (λ f. Row f (phase_of (leg_of c.work legs)) (phase_of (leg_of c.back legs)))
    may (row c.state _ _ its.state)) in
    let leg = phase-there c.work legs Live phases.0 in
    renumber c.call k _ _ (found-number k ((after t start events).nodes n.0).calls c found)
    (there-protects t (route_of t start events) n ((after t start events).nodes n.0) c leg.0 leg.1 leg.3
    (may-pair t events valid run n k c leg.0 leg.1 found leg.2 leg.3)))
order-acts t events valid run n (Order (Fail g)) items first = tt
order-acts t events valid run n (Order (Repair g)) items first = tt
order-acts t events valid run n (Alarm f) items first = tt
order-acts t events valid run n (Clear f) items first = tt

-- over every topology and every run
pub every_order_acts : EveryOrderActs
every_order_acts t events valid run n i items first = order-acts t events valid run n i items first
