-- A guarded call that is hit is restored within so many sweeps, of either kind.
use Rattle.std.proofs.{Common.{append-nil, ◌≡◌, ◌≤◌, ℕ, Bool, true, false, List, [], ◌∷◌, ◌++◌, refl, sym, ◌∙◌, ap, subst, arith}, lemmas.List.Elements.recursion_from_All}
use Rattle.std.specs.{Prelude.{Option, Some}, List.AllByRecursion}
use Rattle.ason_base.specs.{Network.{IsTopology, Network}, declared.calls.CallState.TheVariants.Turned, declared.commands.Command.TheVariants.Fail, declared.commands.Group.Group, declared.ids.CallNo.CallNo, declared.ids.Lsp.Lsp, declared.steps.Step.Step, declared.tables.CallRec.CallRec}
use Rattle.mesh_rules.specs.{declared.events.MeshEvent.MeshEvent, declared.events.MeshEvent.TheVariants.Post, Calls.find_call, Events.{IsRun, after, route_of, step}, Machine.{Mesh, start}}
use Rattle.mesh_nodes.proofs.CallList.{found-call-all}
use Rattle.lsp_laws.specs.{JoinedLaw.{CallIsJoined, IsJoinedFor, IsLive}, StandLaw.{IsUnreleased, CallStandsOn, has_backup}}
use Rattle.lsp_laws.proofs.{hops.Joined.every_call_joined, nodes.CallsStand.every_call_stands_until_released}
use Rattle.mesh_laws.specs.{RestorationLaw.{carrier, is_guarded, is_lsp_hit, is_route_cut}, InOrderLaw.{EveryHitCallIsRestoredInOrder, late_in, sweeps_in_order}, SoonLaw.{EveryHitCallIsRestoredSoon, IsRestoredAt, IsStruck, cut_in, route_hops, route_for, sweeps_for, PostsNothing}, Sweeps.{AreSweeps, AreSweepsInOrder}}
use Rattle.mesh_laws.proofs.{alone.AloneRuns.{after-append, append-one, run-later}, alone.Risks.not_beside, restoration.Cuts.cut-concerns, soon.Along.{backed-standing, unreleased}, soon.AtFailure.{concern-to, first-alarms, only-takes, route-stays}, soon.Activating.CallHasTurned, soon.HitCall.{all-run, apart, back-route, base-run, found-then, hit-group, its, work-route}, soon.TurnedInTime.{turned-in-order, turned-in-time}, soon.NoneUp.{NoneUp, none-up}}

none-released : (t : Network) (s : Mesh) (n : ℕ) (k : CallNo) (es : List MeshEvent) → NoneUp s →
    AllByRecursion PostsNothing es → IsUnreleased t s n k es
none-released t s n k [] none only = tt
none-released t s n k (e ∷ es) none only =
    (unreleased s n k e none, none-released t (step t s e) n k es (none-up t s e only.0 none) only.1)

module _ (t : Network) (valid : IsTopology t) (events : List MeshEvent) (run : IsRun t start events) (g : Group)
    (struck : IsStruck t events g) (n : ℕ) (m : CallNo) (c : CallRec)
    (found : find_call m ((after t start struck.before).nodes n).calls ≡ Some c)
    (guarded : is_guarded ((after t start struck.before).nodes n) c ≡ true)
    (hit : is_lsp_hit t (struck.before ++ Post (Fail g) ∷ []) c.work ≡ true) where
  abbrev base : List MeshEvent
  base = struck.before ++ Post (Fail g) ∷ []

  abbrev end : List MeshEvent
  end = (struck.before ++ Post (Fail g) ∷ []) ++ struck.since

  abbrev work : List Step
  work = (work-route t valid events run g struck n m c found guarded hit).0

  abbrev back : List Step
  back = (back-route t valid events run g struck n m c found guarded hit).0

  abbrev backup : Lsp
  backup = (its t valid events run g struck n m c found guarded hit).back

  whole : IsRun t start ((struck.before ++ Post (Fail g) ∷ []) ++ struck.since)
  whole = all-run t valid events run g struck n m c found guarded hit

  backed : has_backup c.state ≡ true
  backed = subst (λ x. has_backup x ≡ true) (sym (its t valid events run g struck n m c found guarded hit).state) refl

  on : (d : CallRec) × (find_call m ((after t (after t start (struck.before ++ Post (Fail g) ∷ [])) struck.since).nodes
      n).calls ≡ Some d) × CallStandsOn c d
  on = every_call_stands_until_released t base (base-run t valid events run g struck n m c found guarded hit) struck.since
      (run-later t start base struck.since whole) n m c
      (found-then t valid events run g struck n m c found guarded hit) (backed-standing c.state backed)
      (none-released t (after t start base) n m struck.since (first-alarms t valid events run g struck)
      (only-takes t valid events run g struck))

  back-up : is_lsp_hit t ((struck.before ++ Post (Fail g) ∷ []) ++ struck.since) (Some backup) ≡ false
  back-up =
      let sent : route_of t start end backup ≡ Some back =
      route-stays t start base struck.since backup back
      (back-route t valid events run g struck n m c found guarded hit).1 in
      subst (λ (o : Option (List Step)). is_route_cut t (after t start end).failed o ≡ false) (sym sent)
      (go (is_route_cut t (after t start end).failed (Some back)) refl)
    where
      go : (b : Bool) → is_route_cut t (after t start end).failed (Some back) ≡ b → b ≡ false
      go false e = refl
      go true e =
          absurd (not_beside t g work back (apart t valid events run g struck n m c found guarded hit)
          (hit-group t valid events run g struck n m c found guarded hit)
          (cut-concerns t (after t start end).failed g back
          (concern-to t valid events run g struck struck.since [] (append-nil struck.since)).failed e))

  -- Once it has turned, the call is restored.
  turned-restored : CallHasTurned (record { 0 = n }) m (after t (after t start (struck.before ++ Post (Fail g) ∷ []))
      struck.since) → IsRestoredAt t events n m
  turned-restored has =
      let at_end : after t start end ≡ after t (after t start base) struck.since =
      after-append t start base struck.since in
      let d : CallRec = has.call in
      let there : find_call m ((after t start end).nodes n).calls ≡ Some has.call =
      subst (λ (x : Mesh). find_call m (x.nodes n).calls ≡ Some has.call) (sym at_end) has.found in
      let one : on.0 ≡ has.call = (let some : Some on.0 ≡ Some has.call = sym (on.1) ∙ has.found in cc some) in
      let is_back : has.call.back ≡ Some backup =
      subst (λ (x : CallRec). x.back ≡ Some backup) one
      ((on.2.back backed).1 ∙ (its t valid events run g struck n m c found guarded hit).is_back) in
      let carried : carrier has.call ≡ has.call.back = rw has.state refl in
      let all = recursion_from_All (λ (x : CallRec). CallIsJoined t end x x.state) ((after t start end).nodes n).calls
      (every_call_joined t end whole n) in
      let state : CallIsJoined t end has.call has.call.state =
      found-call-all (λ (x : CallRec). CallIsJoined t end x x.state) m ((after t start end).nodes n).calls has.call there
      all in
      let joins : CallIsJoined t end has.call Turned = subst (CallIsJoined t end has.call) has.state state in
      subst (λ xs. IsRestoredAt t xs n m) (append-one struck.before (Post (Fail g)) struck.since ∙ struck.parts)
      (record {
        call = has.call;
        found = there;
        restored = record {
          turned = λ h. has.state;
          joined = subst (IsJoinedFor t end IsLive has.call) (sym carried) joins.1;
          up = subst (λ o. is_lsp_hit t end o ≡ false) (sym (carried ∙ is_back)) back-up;
        };
      })

  -- where its routes go
  at-work : route_for t (struck.before ++ Post (Fail g) ∷ []) c.work ≡ Some work
  at-work =
      subst (λ (o : Option Lsp). route_for t base o ≡ Some work)
      (sym (its t valid events run g struck n m c found guarded hit).is_work)
      (work-route t valid events run g struck n m c found guarded hit).1

  at-back : route_for t (struck.before ++ Post (Fail g) ∷ []) c.back ≡ Some back
  at-back =
      subst (λ (o : Option Lsp). route_for t base o ≡ Some back)
      (sym (its t valid events run g struck n m c found guarded hit).is_back)
      (back-route t valid events run g struck n m c found guarded hit).1

  -- Within so many sweeps the call is restored.
  restored-in-time : (k : ℕ) → AreSweeps t k (after t start (struck.before ++ Post (Fail g) ∷ [])) struck.since →
      sweeps_for t (struck.before ++ Post (Fail g) ∷ []) c ≤ k → IsRestoredAt t events n m
  restored-in-time k sweeps enough =
      let one = ap (cut_in t (after t start base).failed) at-work in
      let two = ap route_hops at-back in
      turned-restored
      (turned-in-time t valid events run g struck n m c found guarded hit k sweeps (omega (arith, enough, one, two)))

  -- And within so many in order.
  restored-in-order : (k : ℕ) →
      AreSweepsInOrder t k (after t start (struck.before ++ Post (Fail g) ∷ [])) struck.since →
      sweeps_in_order t (struck.before ++ Post (Fail g) ∷ []) c ≤ k → IsRestoredAt t events n m
  restored-in-order k sweeps enough =
      let one = ap (late_in t (after t start base).failed c.egress) at-work in
      let two = ap route_hops at-back in
      turned-restored
      (turned-in-order t valid events run g struck n m c found guarded hit k sweeps (omega (arith, enough, one, two)))

-- The laws

-- Each guarded call that is hit is restored within so many sweeps.
pub every_hit_call_soon : EveryHitCallIsRestoredSoon
every_hit_call_soon t events valid run g struck k sweeps n m c found guarded hit enough =
    restored-in-time t valid events run g struck n m c found guarded hit k sweeps enough

-- And within so many sweeps in order.
pub every_hit_call_in_order : EveryHitCallIsRestoredInOrder
every_hit_call_in_order t events valid run g struck k sweeps n m c found guarded hit enough =
    restored-in-order t valid events run g struck n m c found guarded hit k sweeps enough
