-- What an event makes of a call, by what a rule may make of it, of whatever follows from that.
use Rattle.std.proofs.Common.{◌≡◌, ℕ, Bool, true, false, cond, nat_eq, List, [], ◌∷◌, refl, sym, ap, subst, ◌∙◌, arith}
use Rattle.std.specs.Prelude.{Option, Some, None}
use Rattle.ason_base.specs.{declared.commands.Command.TheVariants.{Setup, Release, Protect, Retry, Revert, Fail, Repair}, declared.commands.Command.Command, declared.commands.DeskItem.DeskItem, declared.commands.DeskItem.TheVariants.{Order, Alarm, Clear}, declared.ids.CallNo.CallNo, declared.ids.NodeId.NodeId, declared.messages.Msg.Msg, declared.network.LinkSpec.LinkSpec, declared.tables.CallRec.CallRec, Network.{Network, find_link, row_of}, declared.tables.Out.Out}
use Rattle.mesh_rules.specs.{declared.changes.CallChange.CallChange, declared.changes.CallChange.TheVariants.{Goes, Put}, declared.events.MeshEvent.MeshEvent, declared.events.MeshEvent.TheVariants.{Take, Desk, Tick, Learn, Post}, Calls.{call_changed, calls_changed, find_call, with_call}, Changes.{Answer, changed, learns, nothing}, Events.{on_first, on_first_item, posted, step}, KnownRows.{has_row, known_rows}, Learnt.on_link, LocalNodes.{LocalNode, local_node}, Machine.{Mesh, commit, without_first, without_item}, Orders.on_item, Setups.{SetupRequest, setup_with}, State.NodeState, Waits.on_tick}
use Rattle.mesh_nodes.specs.Order.{CallsRise}
use Rattle.mesh_nodes.proofs.{CallList.{find-with_call, find-without_call, found-number}, Cases.if_cases}
use Rattle.lsp_laws.specs.StandLaw.{is_first_release, is_release_of, is_released_by}
use Rattle.lsp_laws.proofs.{nodes.CallParts.number-is, nodes.CallChanges.{AreChanges, EachCall, OfAny}, nodes.SetupsHold.setup-holds, nodes.CallWalk.message-holds, nodes.CallWays.{CallBecomes, IsWayOf, Retried, Reverted, Ticked, Way}, nodes.OrderWalk.{alarm-holds, clear-holds, protect-holds, release-holds, retry-holds, revert-holds, tick-holds}, nodes.SameCalls.becomes-same}

-- what came to a node over an event: the first message of a list
abbrev pub IsFirstWay : List Msg → Way → Type 0
IsFirstWay [] way = ⊥
IsFirstWay (m ∷ ms) way = IsWayOf m way

-- an order
abbrev IsOrder : DeskItem → Way → Type 0
IsOrder (Order (Retry j from)) (Retried m) = j ≡ m
IsOrder (Order (Revert j from)) (Reverted m) = j ≡ m
IsOrder i way = ⊥

-- the first item of a desk
abbrev pub IsFirstOrder : List DeskItem → Way → Type 0
IsFirstOrder [] way = ⊥
IsFirstOrder (i ∷ items) way = IsOrder i way

abbrev IsTick : Way → Type 0
IsTick Ticked = Unit {0}
IsTick way = ⊥

-- any event
abbrev pub CameOver : Mesh → MeshEvent → Way → Type 0
CameOver s (Take d u) way = IsFirstWay (s.mail u.0 d.0) way
CameOver s (Desk m) way = IsFirstOrder (s.desks m.0) way
CameOver s (Tick m) way = IsTick way
CameOver s e way = ⊥

-- the node at which the event is
abbrev pub IsAt : MeshEvent → NodeId → Type 0
IsAt (Take d u) m = d ≡ m
IsAt (Desk d) m = d ≡ m
IsAt (Tick d) m = d ≡ m
IsAt (Learn d l) m = d ≡ m
IsAt (Post p) m = ⊥

-- nothing is asked of what is sent
abbrev pub AnySent : List Out → Type 0
AnySent outs = Unit {0}

-- k is the number of the call c, which stands at its node before the rule, and Q holds of what becomes of it
module _ (k : CallNo) (c : CallRec) (Q : CallRec → Type 0) (itself : Q c) where
  -- the call of this number stands, and Q holds of it
  abbrev pub Stood : List CallRec → Type 0
  Stood calls = (d : CallRec) × (find_call k calls ≡ Some d) × Q d

  -- another call goes
  abbrev pub Other : CallNo → Type 0
  Other m = nat_eq m.0 k.0 ≡ false

  -- of this number there is just this call
  abbrev pub IsOne : CallRec → Type 0
  IsOne d = d.call ≡ k → d ≡ c

  -- and this call stands on
  abbrev pub On : CallRec → Type 0
  On d = d.call ≡ k → Q d

  change-stands : (x : CallChange) (cs : List CallChange) (calls : List CallRec) → AreChanges Other On (x ∷ cs) →
      Stood calls → Stood (call_changed x calls)
  change-stands (Goes m) cs calls here (d, found, on) =
      let other : nat_eq m.0 k.0 ≡ false = here.0 in
      (d, find-without_call m calls k ∙ ap (λ b. cond b None (find_call k calls)) other ∙ found, on)
  change-stands (Put x) cs calls here (d, found, on) = go (nat_eq x.call.0 k.0) refl
    where
      go : (b : Bool) → nat_eq x.call.0 k.0 ≡ b → Stood (with_call x calls)
      go true e =
          (x, find-with_call x calls k ∙ ap (λ b. cond b (Some x) (find_call k calls)) e, here.0 (number-is x.call k e))
      go false e = (d, find-with_call x calls k ∙ ap (λ b. cond b (Some x) (find_call k calls)) e ∙ found, on)

  changes-stand : (cs : List CallChange) (calls : List CallRec) → AreChanges Other On cs → Stood calls →
      Stood (calls_changed cs calls)
  changes-stand [] calls here stands = stands
  changes-stand (x ∷ cs) calls here stands =
      changes-stand cs (call_changed x calls) here.1 (change-stands x cs calls here stands)

  module _ (p : LocalNode) (s : NodeState) (W : Way → Type 0)
      (made : (d : CallRec) → CallBecomes p s W AnySent c d → Q d) (rise : CallsRise s.calls)
      (found : find_call k s.calls ≡ Some c) where
    keeps : (d e : CallRec) → CallBecomes p s W AnySent d e → IsOne d → On e
    keeps d e way one number =
        let same = becomes-same OfAny p s W AnySent (λ g m j f found first into. tt) d e way in
        let is : d ≡ c = one (sym same.moves.number ∙ number) in
        made e (subst (λ x. CallBecomes p s W AnySent x e) is way)

    one : EachCall IsOne s.calls
    one m d there number =
        let at : m ≡ k = sym (found-number m s.calls d there) ∙ number in
        let there' : find_call k s.calls ≡ Some d = subst (λ x. find_call x s.calls ≡ Some d) at there in
        cc (found, there')

    setup-stands : (w : SetupRequest) (o : Option CallRec) → find_call w.call s.calls ≡ o →
        AreChanges Other On (setup_with p s w o).calls
    setup-stands w (Some d) known = tt
    setup-stands w None known =
        setup-holds Other p s w (λ a. On) (λ a cause known number. never number)
        (λ route out over first ordered has number. never number) None
      where
        never : {X : Type 0} → w.call ≡ k → X
        never number =
            let none : find_call k s.calls ≡ None = subst (λ x. find_call x s.calls ≡ None) number known in
            absurd (cc (none, found))

    item-stands : (i : DeskItem) → ((way : Way) → IsOrder i way → W way) → is_release_of k i ≡ false → AreChanges Other On (on_item p s i).calls
    item-stands (Order (Setup j from to protected both via backup)) came other =
        setup-stands
        (record { call = j; from = from; egress = to; protected = protected; both = both; via = via; backup = backup })
        (find_call j s.calls) refl
    item-stands (Order (Release j from)) came other =
        release-holds Other IsOne On W AnySent p s keeps rise one from
        (find_call j s.calls)
        (λ d there. let is = found-number j s.calls d there in
        subst (λ (x : CallNo). nat_eq x.0 k.0 ≡ false) (sym is) other)
    item-stands (Order (Protect j from)) came other =
        protect-holds Other IsOne On W AnySent p s keeps rise one j from (find_call j s.calls) refl tt
    item-stands (Order (Retry j from)) came other =
        retry-holds Other IsOne On W AnySent p s keeps rise one j from (find_call j s.calls) refl
        (came (Retried j) refl)
    item-stands (Order (Revert j from)) came other =
        revert-holds Other IsOne On W AnySent p s keeps rise one j from (find_call j s.calls) refl
        (came (Reverted j) refl)
    item-stands (Order (Fail g)) came other = tt
    item-stands (Order (Repair g)) came other = tt
    item-stands (Alarm f) came other = alarm-holds Other IsOne On W AnySent p s keeps rise one f
    item-stands (Clear f) came other = clear-holds Other IsOne On W AnySent p s keeps rise one f

    first_item-stands : (items : List DeskItem) → ((way : Way) → IsFirstOrder items way → W way) → is_first_release k items ≡ false →
        AreChanges Other On (on_first_item p s items).calls
    first_item-stands [] came other = tt
    first_item-stands (i ∷ items) came other = item-stands i came other

    first-stands : (u : NodeId) (ms : List Msg) → ((way : Way) → IsFirstWay ms way → W way) → AreChanges Other On (on_first p s u ms).calls
    first-stands u [] came = tt
    first-stands u (m ∷ ms) came = message-holds Other IsOne On W AnySent p s keeps rise one u m came tt

    ticks-stand : W Ticked → AreChanges Other On (on_tick p s).calls
    ticks-stand = tick-holds Other IsOne On W AnySent p s keeps rise one

    link-stands : (o : Option LinkSpec) → AreChanges Other On (on_link p s o).calls
    link-stands None = tt
    link-stands (Some l) =
        if_cases (λ a. AreChanges Other On a.calls) (has_row (known_rows p s) l.id) nothing (learns (row_of l))
        (λ known. tt) (λ new. tt)

  -- an answer is carried out at the node m
  committed-stands : (s : Mesh) (m : NodeId) (a : Answer) (n : ℕ) → find_call k (s.nodes n).calls ≡ Some c →
      (n ≡ m.0 → AreChanges Other On a.calls) → Stood ((commit s m.0 a).nodes n).calls
  committed-stands s m a n found here = go (nat_eq n m.0) refl
    where
      so : Stood (s.nodes n).calls
      so = (c, found, itself)

      go : (b : Bool) → nat_eq n m.0 ≡ b → Stood (cond b (changed (s.nodes n) a) (s.nodes n)).calls
      go true e =
          let is : n ≡ m.0 = grind arith in changes-stand a.calls (s.nodes n).calls (here is) so
      go false e = so

  -- over an event that doesn't carry out the call's release
  pub step-stands : (t : Network) (s : Mesh) (e : MeshEvent) (n : ℕ) →
      ((m : NodeId) (d : CallRec) → n ≡ m.0 → IsAt e m → CallBecomes (local_node t m) (s.nodes m.0) (CameOver s e) AnySent c d → Q d) →
      ((m : ℕ) → CallsRise (s.nodes m).calls) → find_call k (s.nodes n).calls ≡ Some c →
      is_released_by s n k e ≡ false → Stood ((step t s e).nodes n).calls
  step-stands t s (Take d u) n made rise found other =
      committed-stands (without_first s u.0 d.0) d (on_first (local_node t d) (s.nodes d.0) u (s.mail u.0 d.0)) n found
      (λ is. first-stands (local_node t d) (s.nodes d.0) (CameOver s (Take d u)) (λ x. made d x is refl) (rise d.0)
      (subst (λ x. find_call k (s.nodes x).calls ≡ Some c) is found) u (s.mail u.0 d.0) (λ way came. came))
  step-stands t s (Desk m) n made rise found other =
      committed-stands (without_item s m.0) m (on_first_item (local_node t m) (s.nodes m.0) (s.desks m.0)) n found
      (λ is.
      let test : nat_eq m.0 n ≡ true = grind arith in
      let free : is_first_release k (s.desks n) ≡ false = rw test at other in
      first_item-stands (local_node t m) (s.nodes m.0) (CameOver s (Desk m)) (λ x. made m x is refl) (rise m.0)
      (subst (λ x. find_call k (s.nodes x).calls ≡ Some c) is found) (s.desks m.0) (λ way came. came)
      (subst (λ x. is_first_release k (s.desks x) ≡ false) is free))
  step-stands t s (Tick m) n made rise found other =
      committed-stands s m (on_tick (local_node t m) (s.nodes m.0)) n found
      (λ is. ticks-stand (local_node t m) (s.nodes m.0) (CameOver s (Tick m)) (λ x. made m x is refl) (rise m.0)
      (subst (λ x. find_call k (s.nodes x).calls ≡ Some c) is found) tt)
  step-stands t s (Learn m l) n made rise found other =
      committed-stands s m (on_link (local_node t m) (s.nodes m.0) (find_link t l)) n found
      (λ is. link-stands (local_node t m) (s.nodes m.0) (CameOver s (Learn m l)) (λ x. made m x is refl) (rise m.0)
      (subst (λ x. find_call k (s.nodes x).calls ≡ Some c) is found) (find_link t l))
  step-stands t s (Post p) n made rise found other =
      subst (λ (nodes : ℕ → NodeState). Stood (nodes n).calls) (sym (posted-nodes p)) (c, found, itself)
    where
      posted-nodes : (p : Command) → (posted t s p).nodes ≡ s.nodes
      posted-nodes (Setup j from to protected both via backup) = refl
      posted-nodes (Release j from) = refl
      posted-nodes (Protect j from) = refl
      posted-nodes (Retry j from) = refl
      posted-nodes (Revert j from) = refl
      posted-nodes (Fail g) = refl
      posted-nodes (Repair g) = refl
