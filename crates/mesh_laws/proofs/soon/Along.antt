-- Along the events since the failure what the goal needs is there at each state.
use Rattle.std.proofs.{Common.{append_assoc, ◌<◌, append-nil, ◌≡◌, ℕ, suc, true, false, nat_eq, List, [], ◌∷◌, ◌++◌, refl, sym, ◌∙◌, ap, subst}, Math.Bool.and-false}
use Rattle.std.specs.{Prelude.{Some, slice_get}, List.AllByRecursion}
use Rattle.ason_base.specs.{Network.{IsTopology, Network, find_link}, declared.calls.CallState.CallState, declared.calls.CallState.TheVariants.{Asking, Bare, Blocked, Guarded, Pairing, Stuck, Turned, Turning}, declared.commands.DeskItem.DeskItem, declared.commands.DeskItem.TheVariants.{Order, Alarm, Clear}, declared.commands.Group.Group, declared.ids.CallNo.CallNo, declared.steps.Step.Step, declared.tables.CallRec.CallRec, Lsps.has_fibre, declared.ids.NodeId.NodeId}
use Rattle.mesh_rules.specs.{declared.events.MeshEvent.MeshEvent, declared.events.MeshEvent.TheVariants.{Take, Desk, Tick, Learn, Post}, Calls.find_call, Events.{IsRun, after, is_enabled, route_of, step}, LocalNodes.{local_node, own_link}, Machine.{Mesh, start}}
use Rattle.lsp_laws.specs.StandLaw.{CallStandsOn, has_backup, is_first_release, is_released_by, is_standing_call}
use Rattle.lsp_laws.proofs.{nodes.CallsStand.every_call_stands, hops.Plans.node_at, hops.HopLaws.follows, hops.Planned.Follows}
use Rattle.mesh_laws.specs.{AloneLaw.{AllConcern, NoneRefused}, SoonLaw.PostsNothing}
use Rattle.mesh_laws.proofs.{alone.AloneRuns.{after-append, append-one, run-first}, soon.CallGoesOn.{CallBecame, IsCallTold, call-goes_on}, soon.NoneUp.{IsAlarm, NoneUp, none-up}, soon.Noticed.{GoodHere, fibre_of}, soon.Roles.{Fixed, Roles, Scene}, soon.Scenes.scene, soon.Soon.AllGood, soon.Struck.alarm-known}

-- a call that has its backup stands
pub backed-standing : (f : CallState) → has_backup f ≡ true → is_standing_call f ≡ true
backed-standing Guarded e = refl
backed-standing Turning e = refl
backed-standing Turned e = refl
backed-standing Stuck e = refl
backed-standing Bare e = refl
backed-standing Pairing e = refl
backed-standing Asking e = absurd (cc e)
backed-standing Blocked e = absurd (cc e)

-- a desk of alarms releases nothing
no-release : (k : CallNo) (items : List DeskItem) → AllByRecursion IsAlarm items → is_first_release k items ≡ false
no-release k [] all = refl
no-release k (Order c ∷ items) all = absurd all.0
no-release k (Alarm f ∷ items) all = refl
no-release k (Clear f ∷ items) all = absurd all.0

-- nor does any other event, while no order waits
pub unreleased : (s : Mesh) (n : ℕ) (k : CallNo) (e : MeshEvent) → NoneUp s → is_released_by s n k e ≡ false
unreleased s n k (Take d u) none = refl
unreleased s n k (Desk m) none = rw (no-release k (s.desks n) (none.desks n)) (and-false (nat_eq m.0 n))
unreleased s n k (Tick m) none = refl
unreleased s n k (Learn m l) none = refl
unreleased s n k (Post c) none = refl

-- the last event of a run is enabled
enabled-last : (t : Network) (s : Mesh) (done : List MeshEvent) (e : MeshEvent) → IsRun t s (done ++ e ∷ []) →
    is_enabled t (after t s done) e ≡ true
enabled-last t s [] e run = run.0
enabled-last t s (x ∷ done) e run = enabled-last t (step t s x) done e run.1

module _ (t : Network) (valid : IsTopology t) (g : Group) (r : Roles) (fixed : Fixed t r) (hop : Step)
    (there : slice_get r.work_plan.route r.place ≡ Some hop) (link_found : find_link t hop.link ≡ Some r.link)
    (own : own_link (local_node t (node_at r.work_plan (suc r.place))) r.link.id ≡ Some r.link) where
  -- what is known of the call after these events
  pub record Known (events : List MeshEvent) : Type 0 where
    pub concern : AllConcern t g (after t start events)
    pub none_up : NoneUp (after t start events)
    pub work_sent : route_of t start events r.work ≡ Some r.work_plan.route
    pub back_sent : route_of t start events r.back ≡ Some r.back_plan.route
    pub call : CallRec
    pub found : find_call r.call ((after t start events).nodes r.ingress.0).calls ≡ Some call
    pub is_work : call.work ≡ Some r.work
    pub is_back : call.back ≡ Some r.back
    pub work_end : call.egress ≡ r.work_plan.egress
    pub back_end : call.egress ≡ r.back_plan.egress
    pub backed : has_backup call.state ≡ true
    pub told : IsCallTold call

  -- what the laws tell of each state since
  pub record StateTells (events : List MeshEvent) : Type 0 where
    pub concern : AllConcern t g (after t start events)
    pub work_sent : route_of t start events r.work ≡ Some r.work_plan.route
    pub back_sent : route_of t start events r.back ≡ Some r.back_plan.route
    pub unstuck : (c : CallRec) → find_call r.call ((after t start events).nodes r.ingress.0).calls ≡ Some c →
        c.state ≡ Stuck → ⊥
    pub unhit : (c : CallRec) → find_call r.call ((after t start events).nodes r.ingress.0).calls ≡ Some c →
        c.back ≡ Some r.back → c.back_reports ≡ []

  its-scene : (events : List MeshEvent) → IsRun t start events → StateTells events → Known events →
      Scene t r (after t start events)
  its-scene events run tells known =
      scene t valid events run g known.concern r fixed known.call known.found known.is_work known.is_back
      known.work_end known.back_end known.work_sent known.back_sent hop there link_found known.backed
      (tells.unstuck known.call known.found) (tells.unhit known.call known.found known.is_back)

  -- over one event it stands
  stands-on : (events : List MeshEvent) (e : MeshEvent) → IsRun t start events →
      is_enabled t (after t start events) e ≡ true → (known : Known events) →
      (d : CallRec) × (find_call r.call ((step t (after t start events) e).nodes r.ingress.0).calls ≡ Some d) ×
      CallStandsOn known.call d
  stands-on events e run enabled known =
      every_call_stands t events run e enabled r.ingress.0 r.call known.call known.found
      (backed-standing known.call.state known.backed)
      (unreleased (after t start events) r.ingress.0 r.call e known.none_up)

  -- its working LSP was begun, so its number is given out
  number : (events : List MeshEvent) → IsRun t start events →
      route_of t start events r.work ≡ Some r.work_plan.route →
      r.work.lsp < ((after t start events).nodes r.work.ingress.0).lsp
  number events run sent =
      go (subst (Follows t (after t start events) (route_of t start events) r.work) sent (follows t events run r.work))
    where
      go : Follows t (after t start events) (route_of t start events) r.work (Some r.work_plan.route) →
          r.work.lsp < ((after t start events).nodes r.work.ingress.0).lsp
      go (end, q, pl) = pl.number

  known-goes_on : (events : List MeshEvent) (e : MeshEvent) → IsRun t start events →
      is_enabled t (after t start events) e ≡ true → PostsNothing e → (known : Known events) → (d : CallRec) →
      find_call r.call ((step t (after t start events) e).nodes r.ingress.0).calls ≡ Some d → CallBecame known.call d
  known-goes_on events e run enabled only known d later =
      let on = stands-on events e run enabled known in
      let one : on.0 ≡ d = (let same = sym (on.1) ∙ later in cc same) in
      let at_work : (x : Mesh) (c : CallRec) → find_call r.call (x.nodes r.ingress.0).calls ≡ Some c →
      find_call r.call (x.nodes r.work.ingress.0).calls ≡ Some c =
      λ x c there. subst (λ (n : NodeId). find_call r.call (x.nodes n.0).calls ≡ Some c) (sym fixed.work_here) there in
      call-goes_on t events run known.none_up e only r.work (number events run known.work_sent) r.call known.call d
      (at_work (after t start events) known.call known.found)
      (at_work (step t (after t start events) e) d later) known.is_work
      (subst (λ (x : CallRec). x.work ≡ Some r.work) one (on.2.work ∙ known.is_work)) known.told

  -- and it goes on, told as before
  goes-on : (events : List MeshEvent) (e : MeshEvent) → IsRun t start events →
      is_enabled t (after t start events) e ≡ true → PostsNothing e → (known : Known events) → (c d : CallRec) →
      find_call r.call ((after t start events).nodes r.ingress.0).calls ≡ Some c →
      find_call r.call ((step t (after t start events) e).nodes r.ingress.0).calls ≡ Some d → CallBecame c d
  goes-on events e run enabled only known c d there later =
      let same : known.call ≡ c = (let found = sym known.found ∙ there in cc found) in
      subst (λ (x : CallRec). CallBecame x d) same (known-goes_on events e run enabled only known d later)

  -- over one event
  known-step : (events : List MeshEvent) (e : MeshEvent) → IsRun t start events →
      is_enabled t (after t start events) e ≡ true → PostsNothing e → StateTells (events ++ e ∷ []) → Known events →
      Known (events ++ e ∷ [])
  known-step events e run enabled only tells known = go
    where
      s : Mesh
      s = after t start events

      next : after t start (events ++ e ∷ []) ≡ step t (after t start events) e
      next = after-append t start events (e ∷ [])

      on : (d : CallRec) × (find_call r.call ((step t (after t start events) e).nodes r.ingress.0).calls ≡ Some d) ×
          CallStandsOn known.call d
      on = stands-on events e run enabled known

      go : Known (events ++ e ∷ [])
      go = record {
        concern = tells.concern;
        none_up = subst NoneUp (sym next) (none-up t (after t start events) e only known.none_up);
        work_sent = tells.work_sent;
        back_sent = tells.back_sent;
        call = on.0;
        found = subst (λ (x : Mesh). find_call r.call (x.nodes r.ingress.0).calls ≡ Some on.0) (sym next) on.1;
        is_work = on.2.work ∙ known.is_work;
        is_back = (on.2.back known.backed).1 ∙ known.is_back;
        work_end = on.2.egress ∙ known.work_end;
        back_end = on.2.egress ∙ known.back_end;
        backed = (on.2.back known.backed).0;
        told = (known-goes_on events e run enabled only known on.0 on.1).told;
      }

  -- Since the failure all is as the goal needs it.
  pub all-good : (done ahead : List MeshEvent) → IsRun t start (done ++ ahead) → AllByRecursion PostsNothing ahead →
      NoneRefused t (after t start done) ahead →
      ((first later : List MeshEvent) → first ++ later ≡ ahead → StateTells (done ++ first)) → Known done →
      AllGood t (GoodHere t r) (after t start done) ahead
  all-good done [] run only none tells known = tt
  all-good done (e ∷ ahead) run only none tells known =
      let s : Mesh = after t start done in
      let now : IsRun t start done = run-first t start done (e ∷ ahead) run in
      let more : IsRun t start ((done ++ e ∷ []) ++ ahead) = subst (IsRun t start) (sym (append-one done e ahead)) run in
      let longer : IsRun t start (done ++ e ∷ []) = run-first t start (done ++ e ∷ []) ahead more in
      let next : after t start (done ++ e ∷ []) ≡ step t s e = after-append t start done (e ∷ []) in
      let told_now : StateTells done = subst StateTells (append-nil done) (tells [] (e ∷ ahead) refl) in
      let told_then : StateTells (done ++ e ∷ []) = tells (e ∷ []) ahead refl in
      let known' = known-step done e now (enabled-last t start done e longer) only.0 told_then known in (
        record {
          here = its-scene done now told_now known;
          next = subst (Scene t r) next (its-scene (done ++ e ∷ []) longer told_then known');
          none_refused = none.0;
          goes_on = goes-on done e now (enabled-last t start done e longer) only.0 known;
          alarmed = λ rest is was.
              subst (λ x. has_fibre ((step t s x).nodes (node_at r.work_plan (suc r.place)).0).down
              (fibre_of r) ≡ true) (sym is)
              (alarm-known t s (node_at r.work_plan (suc r.place)) r.link rest own was);
        },
        subst (λ x. AllGood t (GoodHere t r) x ahead) next
            (all-good (done ++ e ∷ []) ahead more only.1 (subst (λ x. NoneRefused t x ahead) (sym next) none.2)
            (λ first later parts. subst StateTells (sym (append_assoc done (e ∷ []) first))
            (tells (e ∷ first) later (ap (λ xs. e ∷ xs) parts))) known'),
      )
