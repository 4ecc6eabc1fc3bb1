-- A turned call goes back only where nothing is reported of its working LSP, and a guarded one turns only where something
-- is.
use Rattle.std.proofs.Common.{◌⊎◌, ◌≡◌, ℕ, Bool, true, false, cond, nat_eq, List, [], ◌∷◌, refl, sym, subst, ◌∙◌, arith, inl, inr}
use Rattle.std.specs.Prelude.{Option, Some, None}
use Rattle.ason_base.specs.{declared.commands.Command.TheVariants.{Setup, Release, Protect, Retry, Revert, Fail, Repair}, declared.commands.Command.Command, declared.commands.DeskItem.DeskItem, declared.commands.DeskItem.TheVariants.{Order, Alarm, Clear}, declared.ids.CallNo.CallNo, declared.ids.NodeId.NodeId, declared.messages.Msg.Msg, declared.network.LinkSpec.LinkSpec, declared.tables.CallRec.CallRec, Network.{Network, find_link, row_of}, declared.calls.CallState.TheVariants.{Guarded, Turned}, declared.ids.Fibre.Fibre}
use Rattle.mesh_rules.specs.{declared.events.MeshEvent.MeshEvent, declared.events.MeshEvent.TheVariants.{Take, Desk, Tick, Learn, Post}, Calls.find_call, Changes.{Answer, changed, learns, nothing}, Events.{IsRun, after, on_first, on_first_item, posted, step}, KnownRows.{has_row, known_rows}, Learnt.on_link, LocalNodes.{LocalNode, local_node}, Machine.{Mesh, commit, start, without_first, without_item}, Orders.on_item, Setups.{SetupRequest, setup_with}, State.NodeState, Waits.on_tick, Turns.has_any}
use Rattle.mesh_nodes.specs.Order.{CallsRise}
use Rattle.mesh_nodes.proofs.{CallList.found-number, Cases.if_cases}
use Rattle.lsp_laws.proofs.{nodes.CallMoves.IsSameCall, nodes.CallsHold.{alarm-holds, clear-holds, message-holds, protect-holds, release-holds, retry-holds, revert-holds, tick-holds}, nodes.SetupsHold.setup-holds, nodes.Facts.MeshFacts, nodes.NodeRuns.facts-hold, nodes.CallChanges.{ArePut, EachCall, MayGo, OfAny, each-after}}
use Rattle.lsp_laws.specs.StandLaw.{EveryGuardedCallStays, EveryTurnedCallStays}

-- what becomes of the call c
pub record CallLeaves (c d : CallRec) : Type 0 where
  pub turned : c.state ≡ Turned → (d.state ≡ Turned) ⊎ (has_any d.work_reports ≡ false)
  pub guarded : c.state ≡ Guarded → (d.state ≡ Guarded) ⊎ (has_any d.work_reports ≡ true)

-- k is the number of the call c before the rule
module _ (k : CallNo) (c : CallRec) where
  -- of this number there is just this call
  abbrev IsOne : CallRec → Type 0
  IsOne d = d.call ≡ k → d ≡ c

  -- and it leaves its state so
  abbrev Stays : CallRec → Type 0
  Stays d = d.call ≡ k → CallLeaves c d

  keeps : (d e : CallRec) → IsSameCall OfAny d e → IsOne d → Stays e
  keeps d e same one number =
      let is : d ≡ c = one (sym same.moves.number ∙ number) in
      subst (λ (x : CallRec). CallLeaves x e) is (record { turned = same.moves.turned; guarded = same.moves.guarded })

  module _ (p : LocalNode) (s : NodeState) (rise : CallsRise s.calls) (found : find_call k s.calls ≡ Some c) where
    one : EachCall IsOne s.calls
    one m d there number =
        let at : m ≡ k = sym (found-number m s.calls d there) ∙ number in
        let there' : find_call k s.calls ≡ Some d = subst (λ x. find_call x s.calls ≡ Some d) at there in
        cc (found, there')

    setup-stays : (w : SetupRequest) (o : Option CallRec) → find_call w.call s.calls ≡ o →
        ArePut Stays (setup_with p s w o).calls
    setup-stays w (Some d) known = tt
    setup-stays w None known =
        setup-holds MayGo p s w (λ a. Stays) (λ a cause known number. never number)
        (λ route out over first ordered has number. never number) None
      where
        never : {X : Type 0} → w.call ≡ k → X
        never number =
            let none : find_call k s.calls ≡ None = subst (λ x. find_call x s.calls ≡ None) number known in
            absurd (cc (none, found))

    item-stays : (i : DeskItem) → ArePut Stays (on_item p s i).calls
    item-stays (Order (Setup j from to protected both via backup)) =
        setup-stays
        (record { call = j; from = from; egress = to; protected = protected; both = both; via = via; backup = backup })
        (find_call j s.calls) refl
    item-stays (Order (Release j from)) =
        release-holds OfAny MayGo IsOne Stays keeps p s (λ g m j f found first into. tt) rise one from
        (find_call j s.calls) (λ d there. tt)
    item-stays (Order (Protect j from)) =
        protect-holds OfAny MayGo IsOne Stays keeps p s (λ g m j f found first into. tt) rise one j from
        (find_call j s.calls) refl
    item-stays (Order (Retry j from)) =
        retry-holds OfAny MayGo IsOne Stays keeps p s (λ g m j f found first into. tt) rise one j from
        (find_call j s.calls) refl
    item-stays (Order (Revert j from)) =
        revert-holds OfAny MayGo IsOne Stays keeps p s (λ g m j f found first into. tt) rise one j from
        (find_call j s.calls) refl
    item-stays (Order (Fail g)) = tt
    item-stays (Order (Repair g)) = tt
    item-stays (Alarm f) = alarm-holds OfAny MayGo IsOne Stays keeps p s (λ g m j f found first into. tt) rise one f
    item-stays (Clear f) = clear-holds OfAny MayGo IsOne Stays keeps p s (λ g m j f found first into. tt) rise one f

    first_item-stays : (items : List DeskItem) → ArePut Stays (on_first_item p s items).calls
    first_item-stays [] = tt
    first_item-stays (i ∷ items) = item-stays i

    first-stays : (u : NodeId) (ms : List Msg) → ArePut Stays (on_first p s u ms).calls
    first-stays u [] = tt
    first-stays u (m ∷ ms) = message-holds OfAny MayGo IsOne Stays keeps p s (λ g m j f found first into. tt) rise one u m

    ticks-stay : ArePut Stays (on_tick p s).calls
    ticks-stay = tick-holds OfAny MayGo IsOne Stays keeps p s (λ g m j f found first into. tt) rise one

    link-stays : (o : Option LinkSpec) → ArePut Stays (on_link p s o).calls
    link-stays None = tt
    link-stays (Some l) =
        if_cases (λ a. ArePut Stays a.calls) (has_row (known_rows p s) l.id) nothing (learns (row_of l))
        (λ known. tt) (λ new. tt)

  module _ (s : Mesh) (n : ℕ) (rise : (m : ℕ) → CallsRise (s.nodes m).calls)
      (found : find_call k (s.nodes n).calls ≡ Some c) where
    itself : EachCall Stays (s.nodes n).calls
    itself m d there number =
        let at : m ≡ k = sym (found-number m (s.nodes n).calls d there) ∙ number in
        let there' : find_call k (s.nodes n).calls ≡ Some d =
        subst (λ x. find_call x (s.nodes n).calls ≡ Some d) at there in
        let is : c ≡ d = (let some : Some c ≡ Some d = sym found ∙ there' in cc some) in
        subst (CallLeaves c) is (record { turned = λ e. inl e; guarded = λ e. inl e })

    -- an answer is carried out at the node m, over any desks and messages
    committed : (x : Mesh) → x.nodes ≡ s.nodes → (m : NodeId) (a : Answer) → (n ≡ m.0 → ArePut Stays a.calls) →
        EachCall Stays ((commit x m.0 a).nodes n).calls
    committed x same m a here = go (nat_eq n m.0) refl
      where
        at-node : EachCall Stays (x.nodes n).calls
        at-node = subst (λ (nodes : ℕ → NodeState). EachCall Stays (nodes n).calls) (sym same) itself

        go : (b : Bool) → nat_eq n m.0 ≡ b → EachCall Stays (cond b (changed (x.nodes n) a) (x.nodes n)).calls
        go true e = let is : n ≡ m.0 = grind arith in each-after Stays a.calls (x.nodes n).calls (here is) at-node
        go false e = at-node

    at : (m : NodeId) → n ≡ m.0 → find_call k (s.nodes m.0).calls ≡ Some c
    at m is = subst (λ x. find_call k (s.nodes x).calls ≡ Some c) is found

    step-stays : (t : Network) (e : MeshEvent) → EachCall Stays ((step t s e).nodes n).calls
    step-stays t (Take d u) =
        committed (without_first s u.0 d.0) refl d (on_first (local_node t d) (s.nodes d.0) u (s.mail u.0 d.0))
        (λ is. first-stays (local_node t d) (s.nodes d.0) (rise d.0) (at d is) u (s.mail u.0 d.0))
    step-stays t (Desk m) =
        committed (without_item s m.0) refl m (on_first_item (local_node t m) (s.nodes m.0) (s.desks m.0))
        (λ is. first_item-stays (local_node t m) (s.nodes m.0) (rise m.0) (at m is) (s.desks m.0))
    step-stays t (Tick m) =
        committed s refl m (on_tick (local_node t m) (s.nodes m.0))
        (λ is. ticks-stay (local_node t m) (s.nodes m.0) (rise m.0) (at m is))
    step-stays t (Learn m l) =
        committed s refl m (on_link (local_node t m) (s.nodes m.0) (find_link t l))
        (λ is. link-stays (local_node t m) (s.nodes m.0) (rise m.0) (at m is) (find_link t l))
    step-stays t (Post x) =
        subst (λ (nodes : ℕ → NodeState). EachCall Stays (nodes n).calls) (sym (posted-nodes x)) itself
      where
        posted-nodes : (x : Command) → (posted t s x).nodes ≡ s.nodes
        posted-nodes (Setup j from to protected both via backup) = refl
        posted-nodes (Release j from) = refl
        posted-nodes (Protect j from) = refl
        posted-nodes (Retry j from) = refl
        posted-nodes (Revert j from) = refl
        posted-nodes (Fail g) = refl
        posted-nodes (Repair g) = refl

pub none-reported : (fibres : List Fibre) → has_any fibres ≡ false → fibres ≡ []
none-reported [] e = refl
none-reported (f ∷ fibres) e = absurd (cc e)

-- Over each event of a run each call leaves its state so.
pub every_call_leaves : (t : Network) (events : List MeshEvent) → IsRun t start events → (e : MeshEvent) (n : ℕ)
    (k : CallNo) (c d : CallRec) → find_call k ((after t start events).nodes n).calls ≡ Some c →
    find_call k ((step t (after t start events) e).nodes n).calls ≡ Some d → CallLeaves c d
every_call_leaves t events run e n k c d found later =
    let s : Mesh = after t start events in
    let facts : MeshFacts t s = facts-hold t events run in
    step-stays k c s n (λ m. (facts.node m).calls_rise) found t e k d later
    (found-number k ((step t s e).nodes n).calls d later)

-- A turned call stays so, over each event, while a fibre of its working LSP is reported.
pub every_turned_call_stays : EveryTurnedCallStays
every_turned_call_stays t events run e enabled n k c d found later turned left =
    elim ((every_call_leaves t events run e n k c d found later).turned turned) [
      | inl stays ↦ absurd (left stays)
      | inr none ↦ none-reported d.work_reports none
    ]

-- And a guarded call stays so while none is.
pub every_guarded_call_stays : EveryGuardedCallStays
every_guarded_call_stays t events run e enabled n k c d found later guarded left none =
    elim ((every_call_leaves t events run e n k c d found later).guarded guarded) [
      | inl stays ↦ left stays
      | inr some ↦ (let never : has_any [] ≡ true = subst (λ fibres. has_any fibres ≡ true) none some in cc never)
    ]
