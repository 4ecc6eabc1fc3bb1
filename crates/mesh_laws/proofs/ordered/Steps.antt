-- What each answer and each failure keep: a call is that of a posted setup, with a working leg that is two-way just
-- where this says so, and each order on a desk was posted.
use Rattle.std.proofs.{Common.{◌≡◌, ◌⊎◌, ℕ, Bool, true, false, not, List, [], ◌∷◌, drop, refl, sym, ap, subst, ◌∙◌, inl, inr}, ByRecursion.All-append}
use Rattle.std.specs.{Prelude.{Option, Some, None}, List.AllByRecursion}
use Rattle.ason_base.specs.{declared.calls.CallState.CallState, declared.calls.CallState.TheVariants.{Asking, Blocked}, declared.calls.Cause.Cause, declared.calls.Cause.TheVariants.Unset, declared.commands.Command.TheVariants.{Setup, Release, Protect, Retry, Revert, Fail, Repair}, declared.commands.DeskItem.DeskItem, declared.commands.DeskItem.TheVariants.{Order, Alarm, Clear}, declared.commands.Group.Group, declared.ids.Fibre.Fibre, declared.ids.Lsp.Lsp, declared.ids.NodeId.NodeId, declared.steps.Step.Step, declared.messages.Msg.Msg, declared.network.LinkSpec.LinkSpec, declared.tables.CallRec.CallRec, declared.tables.Leg.Leg, Network.{Network, row_of}}
use Rattle.mesh_rules.specs.{declared.events.MeshEvent.MeshEvent, Calls.{find_call, is_asking}, Changes.{Answer, changed, learns, nothing}, Events.{on_first, on_first_item}, FirstLegs.first_link, Setups.{SetupRequest, begins, call_record, next_lsp}, Failures.{all_news, news, with_failed}, KnownRows.{has_row, known_rows}, Learnt.on_link, Legs.find_leg, LocalNodes.{LocalNode, local_node}, Machine.Mesh, Orders.on_item, Pairs.is_two_way, State.NodeState, Waits.on_tick}
use Rattle.mesh_nodes.specs.Order.{CallsRise}
use Rattle.mesh_nodes.proofs.{Cases.if_cases, News.all-told}
use Rattle.lsp_laws.specs.{CallLaw.IsTidy, NodeLaw.{DeskFits, FitsDesk}}
use Rattle.lsp_laws.proofs.{nodes.CallMoves.{IsSameCall, moves-none}, nodes.Facts.NodeFacts, nodes.CallChanges.{ArePut, EachCall, MayGo, OfAny}, nodes.CallsHold.{alarm-holds, clear-holds, message-holds, protect-holds, release-holds, retry-holds, revert-holds, tick-holds}, nodes.SetupsHold.setup-holds, hops.Stepped.{grown, grown-grow}, hops.GivenRoutes.sent-over, hops.HopLaws.carried, hops.Planned.{EachFollows, Grow, Routes}}
use Rattle.mesh_laws.specs.{KnownLaw.ComesIn, OrderLaw.{IsOrdered, WasPosted}}
use Rattle.mesh_laws.proofs.ordered.Ways.{KeepWays, KeepsWay, begun-way, first-keep, first_item-keep, tick-keep}

module _ (t : Network) (all : List MeshEvent) where
  pub record IsCallKept (o : Routes) (n : ℕ) (legs : List Leg) (c : CallRec) : Type 0 where
    pub tidy : IsTidy c
    pub order : IsOrdered o all n legs c

  -- and its working leg is as it was among those legs
  abbrev pub IsKeptTo : Routes → ℕ → List Leg → List Leg → CallRec → Type 0
  IsKeptTo o n was now c = IsCallKept o n was c × KeepsWay was now c

  -- an order was posted
  abbrev IsPosted : DeskItem → Type 0
  IsPosted (Order c) = WasPosted c all
  IsPosted (Alarm f) = Unit {0}
  IsPosted (Clear f) = Unit {0}

  pub record AreCallsKept (s : Mesh) (o : Routes) : Type 0 where
    pub calls : (n : ℕ) → EachCall (IsCallKept o n (s.nodes n).legs) (s.nodes n).calls
    pub desks : (n : ℕ) → AllByRecursion IsPosted (s.desks n)
    pub down : (n : NodeId) → AllByRecursion (ComesIn (local_node t n)) (s.nodes n.0).down

  same-kept : (o o' : Routes) → Grow o o' → (n : ℕ) (was now : List Leg) (c d : CallRec) → IsSameCall OfAny c d →
      IsKeptTo o n was now c → IsCallKept o' n now d
  same-kept o o' grow n was now c d same (kept, way) = record {
    tidy = same.moves.tidy kept.tidy;
    order = record {
      from = kept.order.from;
      both = kept.order.both;
      via = kept.order.via;
      here = kept.order.here;
      posted = rw (same.moves.number, same.egress, same.protected, same.backup) kept.order.posted;
      over = λ l route work via. go l route work via same.work;
      ways = λ l h work here. along l h work here same.work;
    };
  }
    where
      along : (l : Lsp) (h : Leg) → d.work ≡ Some l → find_leg l now ≡ Some h →
          (d.work ≡ c.work) ⊎ ((d.work ≡ None) × (is_asking c.state ≡ true)) → is_two_way h ≡ kept.order.both
      along l h work here (inl is) =
          let before = way l h (sym is ∙ work) here in
          before.2 ∙ kept.order.ways l before.0 (sym is ∙ work) before.1
      along l h work here (inr gone) = absurd (let none = gone.0 in cc (none, work))

      go : (l : Lsp) (route : List Step) → d.work ≡ Some l → kept.order.via ≡ Some route →
          (d.work ≡ c.work) ⊎ ((d.work ≡ None) × (is_asking c.state ≡ true)) → o' l ≡ Some route
      go l route work via (inl is) = grow l route (kept.order.over l route (sym is ∙ work) via)
      go l route work via (inr gone) = absurd (let none = gone.0 in cc (none, work))

  pub grown-kept : (s : NodeState) (o o' : Routes) (n : ℕ) (now : List Leg) → Grow o o' →
      EachCall (IsCallKept o n s.legs) s.calls → EachCall (KeepsWay s.legs now) s.calls →
      EachCall (IsCallKept o' n now) s.calls
  grown-kept s o o' n now grow each ways k c found =
      same-kept o o' grow n s.legs now c c
      (record { egress = refl; protected = refl; backup = refl; work = inl refl; moves = moves-none OfAny c })
      (each k c found, ways k c found)

  -- Calls

  module _ (s : Mesh) (n : NodeId) (o : Routes) (f : EachFollows t s o) (facts : NodeFacts n.0 (s.nodes n.0))
      (each : EachCall (IsCallKept o n.0 (s.nodes n.0).legs) (s.nodes n.0).calls) where
    abbrev p : LocalNode
    p = local_node t n

    abbrev state : NodeState
    state = s.nodes n.0

    rise : CallsRise (s.nodes n.0).calls
    rise = facts.calls_rise

    abbrev now : Answer → List Leg
    now a = (changed (s.nodes n.0) a).legs

    -- what holds of each call before the answer, and of each one that this puts in its place
    abbrev Before : Answer → CallRec → Type 0
    Before a = IsKeptTo o n.0 (s.nodes n.0).legs (now a)

    abbrev Later : Answer → CallRec → Type 0
    Later a = IsCallKept (grown n o a) n.0 (now a)

    abbrev Puts : Answer → Type 0
    Puts a = ArePut (Later a) a.calls

    before : (a : Answer) → KeepWays (s.nodes n.0) a → EachCall (Before a) (s.nodes n.0).calls
    before a ways k c found = (each k c found, ways k c found)

    same-puts : (a : Answer) (c d : CallRec) → IsSameCall OfAny c d → Before a c → Later a d
    same-puts a = same-kept o (grown n o a) (grown-grow n o a) n.0 state.legs (now a)

    over-given : (w : SetupRequest) (route : List Step) (out : LinkSpec) → (w.via ≡ Some route) ⊎ (w.via ≡ None) →
        first_link (local_node t n) route ≡ Some out → (l : Lsp) (r : List Step) →
        Some (next_lsp (local_node t n) (s.nodes n.0)) ≡ Some l → w.via ≡ Some r →
        grown n o (begins (local_node t n) (s.nodes n.0) w out (drop 1 route)) l ≡ Some r
    over-given w route out (inl via) first l r is given =
        let own : next_lsp p state ≡ l = cc is in
        let one : route ≡ r = cc (via, given) in
        subst (λ k. grown n o (begins p state w out (drop 1 route)) k ≡ Some r) own
        (sent-over t s n o f w route out first ∙ ap Some one)
    over-given w route out (inr none) first l r is given = absurd (cc (none, given))

    -- the call of a setup that was posted, with what is known of its working LSP
    setup-ordered : (w : SetupRequest) (begun : CallState) (work : Option Lsp) (cause : Cause) (o' : Routes)
        (legs : List Leg) → w.from.0 ≡ n.0 →
        WasPosted (Setup w.call w.from w.egress w.protected w.both w.via w.backup) all →
        ((l : Lsp) (r : List Step) → work ≡ Some l → w.via ≡ Some r → o' l ≡ Some r) →
        ((l : Lsp) (g : Leg) → work ≡ Some l → find_leg l legs ≡ Some g → is_two_way g ≡ w.both) →
        IsOrdered o' all n.0 legs (call_record w begun work cause)
    setup-ordered w begun work cause o' legs here posted over ways =
        record { from = w.from; both = w.both; via = w.via; here = here; posted = posted; over = over; ways = ways }

    item-puts : (i : DeskItem) → FitsDesk t n.0 i → IsPosted i →
        EachCall (Before (on_item (local_node t n) (s.nodes n.0) i)) (s.nodes n.0).calls →
        Puts (on_item (local_node t n) (s.nodes n.0) i)
    item-puts (Order (Setup k from to protected both via backup)) fits was old =
        let w : SetupRequest =
        record {
          call = k;
          from = from;
          egress = to;
          protected = protected;
          both = both;
          via = via;
          backup =
              backup;
        } in
        setup-holds MayGo p state w Later
        (λ a cause known. record {
          tidy = record { cause = ap not known; ticks = refl; paired = refl };
          order = setup-ordered w Blocked None cause (grown n o a) (now a) fits.1 was
              (λ l r work given. absurd (cc work)) (λ l g work here. absurd (cc work));
        })
        (λ route out over first ordered has. record {
          tidy = record { cause = refl; ticks = refl; paired = refl };
          order = setup-ordered w Asking (Some (next_lsp p state)) Unset _ _ fits.1 was
              (over-given w route out over first) (begun-way p state w out (drop 1 route) has);
        }) (find_call k state.calls)
    item-puts (Order (Release k from)) fits was old =
        let a = on_item p state (Order (Release k from)) in
        release-holds OfAny MayGo (Before a) _ (same-puts a) p state
        (λ g m j f found first into. tt) rise old from (find_call k state.calls) (λ c is. tt)
    item-puts (Order (Protect k from)) fits was old =
        let a = on_item p state (Order (Protect k from)) in
        protect-holds OfAny MayGo (Before a) _ (same-puts a) p state
        (λ g m j f found first into. tt) rise old k from (find_call k state.calls) refl
    item-puts (Order (Retry k from)) fits was old =
        let a = on_item p state (Order (Retry k from)) in
        retry-holds OfAny MayGo (Before a) _ (same-puts a) p state
        (λ g m j f found first into. tt) rise old k from (find_call k state.calls) refl
    item-puts (Order (Revert k from)) fits was old =
        let a = on_item p state (Order (Revert k from)) in
        revert-holds OfAny MayGo (Before a) _ (same-puts a) p state
        (λ g m j f found first into. tt) rise old k from (find_call k state.calls) refl
    item-puts (Order (Fail g)) fits was old = tt
    item-puts (Order (Repair g)) fits was old = tt
    item-puts (Alarm x) fits was old =
        let a = on_item p state (Alarm x) in
        alarm-holds OfAny MayGo (Before a) _ (same-puts a) p state
        (λ g m j f found first into. tt) rise old x
    item-puts (Clear x) fits was old =
        let a = on_item p state (Clear x) in
        clear-holds OfAny MayGo (Before a) _ (same-puts a) p state
        (λ g m j f found first into. tt) rise old x

    pub first_item-puts : (items : List DeskItem) → DeskFits t n.0 items → AllByRecursion IsPosted items →
        Puts (on_first_item (local_node t n) (s.nodes n.0) items)
    first_item-puts [] fits was = tt
    first_item-puts (i ∷ items) fits was =
        item-puts i fits.0 was.0 (before (on_item p state i) (first_item-keep t n state facts (i ∷ items)))

    -- whatever the routes grow to
    pub first-puts : (o' : Routes) → Grow o o' → (u : NodeId) (ms : List Msg) →
        ArePut (IsCallKept o' n.0 (now (on_first (local_node t n) (s.nodes n.0) u ms)))
        (on_first (local_node t n) (s.nodes n.0) u ms).calls
    first-puts o' grow u [] = tt
    first-puts o' grow u (m ∷ ms) =
        let a = on_first p state u (m ∷ ms) in
        message-holds OfAny MayGo (Before a) (IsCallKept o' n.0 (now a)) (same-kept o o' grow n.0 state.legs (now a)) p
        state (λ g m j f found first into. tt) rise (before a (first-keep t n state facts u (m ∷ ms))) u m

    pub ticks-put : Puts (on_tick (local_node t n) (s.nodes n.0))
    ticks-put =
        tick-holds OfAny MayGo (Before (on_tick p state)) _ (same-puts (on_tick p state)) p state
        (λ g m j f found first into. tt) rise (before (on_tick p state) (tick-keep t n state facts))

    pub link-puts : (o' : Routes) (l : Option LinkSpec) →
        ArePut (IsCallKept o' n.0 (now (on_link (local_node t n) (s.nodes n.0) l)))
        (on_link (local_node t n) (s.nodes n.0) l).calls
    link-puts o' None = tt
    link-puts o' (Some l) =
        if_cases (λ a. ArePut (IsCallKept o' n.0 (now a)) a.calls) (has_row (known_rows p state) l.id) nothing
        (learns (row_of l)) (λ known. tt) (λ new. tt)

  -- Desks

  news-posted : (cut : Bool) (f : Fibre) → IsPosted (news cut f)
  news-posted true f = tt
  news-posted false f = tt

  -- Every event

  pub carried-failed : (s : Mesh) (groups : List Group) → (o : Routes) → AreCallsKept s o →
      AreCallsKept (with_failed t s groups) o
  carried-failed s groups o carried = record {
    calls = carried.calls;
    desks = λ n. All-append IsPosted (s.desks n) (all_news t s.failed groups n) (carried.desks n)
        (all-told IsPosted news-posted s.failed groups n t.links);
    down = carried.down;
  }
