-- The backup route that a call was given stands beside the route of its working LSP, in every state of every run.
use Rattle.std.proofs.{Common.{◌≡◌, inl, ℕ, Bool, true, false, cond, nat_eq, nat_le, List, [], ◌∷◌, ◌++◌, refl, sym, ap, subst, arith}, ByRecursion.All-append, lemmas.Bool.not-true}
use Rattle.std.specs.{Prelude.{◌+◌, ◌&&◌, not, Option, Some, None}, List.AllByRecursion}
use Rattle.ason_base.specs.{Codes.{busy_code, fibre_down_code, fibre_up_code}, Lsps.{has_fibre, without_fibre}, declared.calls.Cause.TheVariants.Code, Network.{Network, find_link, row_of}, declared.codes.ErrCode.ErrCode, declared.ids.CallNo.CallNo, declared.ids.Fibre.Fibre, declared.ids.LinkId.LinkId, declared.ids.NodeId.NodeId, declared.network.LinkSpec.LinkSpec, declared.commands.Command.Command, declared.commands.Command.TheVariants.{Setup, Release, Protect, Retry, Revert, Fail, Repair}, declared.commands.DeskItem.DeskItem, declared.commands.DeskItem.TheVariants.{Order, Alarm, Clear}, declared.messages.Msg.Msg, declared.tables.CallRec.CallRec, declared.tables.Leg.Leg}
use Rattle.ason_base.proofs.{Bools.{and-left, and-right}, JoinedEnds.same-node}
use Rattle.mesh_rules.specs.{declared.events.MeshEvent.MeshEvent, declared.events.MeshEvent.TheVariants.{Take, Desk, Tick, Learn, Post}, Alarms.{enters, knows_down}, Calls.{find_call, guarded, is_stuck, is_turned, stuck, turning}, Changes.{Answer, learns, nothing}, Commands.{has_backup_way, is_valid}, Events.{first_route, on_first, on_first_item, or_route, posted, sent_at_ingress, step}, KnownRows.{has_row, known_rows}, Learnt.on_link, Legs.{find_leg, is_contended, is_held, is_in_use, leg_of, previous}, Pairs.route_from, Reports.fibre_into, Retries.{retries, retry_with}, Reverts.{revert_with, reverts}, Turns.{arms, call_put, disarms, go_back, has_any, turn, turn_to}, Waits.{all_ticked, on_tick, call_ticked, waits}, LocalNodes.{LocalNode, local_node, own_link}, Machine.{Mesh, without_first, without_item}, Orders.on_item, Setups.{SetupRequest, is_order_here, setup_with}, State.NodeState}
use Rattle.mesh_nodes.specs.Order.{CallsRise}
use Rattle.mesh_nodes.proofs.{CallList.all-calls_found, Cases.if_cases}
use Rattle.lsp_laws.specs.ReportLaw.{IsOfRoute}
use Rattle.lsp_laws.proofs.{nodes.CallMoves.{IsSameCall, MayLeave, by-test, not-guarded, revised-call, to-guarded, to-stuck, to-turning, waits-more, whole-turned}, nodes.CallChanges.{ArePut, EachCall, MayGo}, nodes.CallsHold.{message-holds, protect-holds, release-holds}, nodes.SetupsHold.setup-holds, hops.Planned.{Routes, EachFollows, Grow}, hops.Paired.{no_previous, whole-made, whole-route}, hops.Stepped.{grown, grown-grow}, hops.GivenRoutes.{EachGivenBeside, IsGivenCall, begun-beside, committed, grown-beside, same-call, still-beside}}

module _ (t : Network) (s : Mesh) (n : NodeId) (o : Routes) (f : EachFollows t s o) where
  abbrev place : LocalNode
  place = local_node t n

  -- An item of a desk

  module _ (rise : CallsRise (s.nodes n.0).calls) (each : EachGivenBeside t s o) where
    -- a fibre that a Notify reports at the ingress is of the route
    rep-here : (g : Leg) (m : NodeId) (k : LinkId) (x : Fibre) → find_leg g.lsp (s.nodes n.0).legs ≡ Some g →
        previous g ≡ None → fibre_into (route_from (local_node t n) g) g.egress m k ≡ Some x → IsOfRoute t o g.lsp x
    rep-here g m k x found first into =
        let here : g.lsp.ingress ≡ n = no_previous t s o g.lsp n g (o g.lsp) (f g.lsp) found first in
        record {
          route = route_from (local_node t n) g;
          sent = whole-route t s o g.lsp n g (o g.lsp) (f g.lsp) here found;
          to = g.egress;
          made = whole-made t s o g.lsp n g (o g.lsp) (f g.lsp) here found;
          at = m;
          link = k;
          into = into;
        }

    abbrev Puts : Answer → Type 0
    Puts a = ArePut (IsGivenCall t (grown n o a) n) a.calls

    keeps : (a : Answer) (c d : CallRec) → IsSameCall (IsOfRoute t o) c d → IsGivenCall t o n c →
        IsGivenCall t (grown n o a) n d
    keeps a c d is here = still-beside t o (grown n o a) n (grown-grow n o a) c d is here

    setup-puts : (w : SetupRequest) → has_backup_way t w.from w.egress w.protected w.via w.backup ≡ true →
        (known : Option CallRec) → Puts (setup_with (local_node t n) (s.nodes n.0) w known)
    setup-puts w way known =
        setup-holds MayGo place (s.nodes n.0) w (λ a. IsGivenCall t (grown n o a) n)
        (λ a cause known. record {
          beside = λ l backup work given. absurd (cc work);
          told = record { work = tt; back = tt };
        })
        (λ route out over first ordered has. record {
          beside = begun-beside t s n o f w (here ordered) way route out over first;
          told = record { work = tt; back = tt };
        }) known
      where
        here : is_order_here (local_node t n) w ≡ true → w.from ≡ n
        here ordered =
            let test : nat_eq w.from.0 n.0 ≡ true = and-left _ _ ordered in
            let number : w.from.0 ≡ n.0 = grind arith in
            same-node w.from n number

    same-puts : (a : Answer) (c d : CallRec) → IsSameCall (IsOfRoute t o) c d → IsGivenCall t o n c →
        IsGivenCall t (grown n o a) n d × Unit {0}
    same-puts a c d is here = (keeps a c d is here, tt)

    turn-puts : (legs : List Leg) (c : CallRec) (b : Option Leg) → MayLeave c → IsGivenCall t o n c →
        Puts (turn legs c b)
    turn-puts legs c None may here = same-puts (turn legs c None) c c (same-call t o c) here
    turn-puts legs c (Some b) may here =
        if_cases Puts (is_held b.phase) (turn_to legs c b) (call_put c)
        (λ h. if_cases Puts (is_contended legs b) (call_put (stuck c (Code busy_code))) (arms c b)
        (λ busy. same-puts (call_put (stuck c (Code busy_code))) c (stuck c (Code busy_code))
        (revised-call (IsOfRoute t o) c _ refl refl refl refl (to-stuck (IsOfRoute t o) c (Code busy_code) refl may)) here)
        (λ free. same-puts (arms c b) c (turning c)
        (revised-call (IsOfRoute t o) c _ refl refl refl refl (to-turning (IsOfRoute t o) c may)) here))
        (λ h. same-puts (call_put c) c c (same-call t o c) here)

    back-puts : (a : Answer) (c : CallRec) (b : Option Leg) → MayLeave c → IsGivenCall t o n c →
        ArePut (IsGivenCall t (grown n o a) n) (go_back c b).calls
    back-puts a c None may here = same-puts a c c (same-call t o c) here
    back-puts a c (Some b) may here =
        if_cases (λ x. ArePut (IsGivenCall t (grown n o a) n) x.calls) (is_in_use b.phase) (disarms c b) (call_put c)
        (λ h. same-puts a c (guarded c)
        (revised-call (IsOfRoute t o) c _ refl refl refl refl (to-guarded (IsOfRoute t o) c may)) here)
        (λ h. same-puts a c c (same-call t o c) here)

    retry-puts : (from : NodeId) (k : CallNo) (c : Option CallRec) → find_call k (s.nodes n.0).calls ≡ c →
        Puts (retry_with (local_node t n) (s.nodes n.0) from c)
    retry-puts from k None is = tt
    retry-puts from k (Some c) is =
        if_cases Puts (nat_eq from.0 n.0) (retries (s.nodes n.0) c) nothing
        (λ h. if_cases Puts (is_stuck c.state && (has_any c.work_reports && not (has_any c.back_reports)))
        (turn (s.nodes n.0).legs c (leg_of c.back (s.nodes n.0).legs)) nothing
        (λ stuck. turn-puts (s.nodes n.0).legs c (leg_of c.back (s.nodes n.0).legs)
        (by-test c is_stuck refl refl (and-left (is_stuck c.state) _ stuck)) (each n k c is)) (λ stuck. tt))
        (λ h. tt)

    revert-puts : (from : NodeId) (k : CallNo) (c : Option CallRec) → find_call k (s.nodes n.0).calls ≡ c →
        Puts (revert_with (local_node t n) (s.nodes n.0) from c)
    revert-puts from k None is = tt
    revert-puts from k (Some c) is =
        if_cases Puts (nat_eq from.0 n.0) (reverts (s.nodes n.0) c) nothing
        (λ h. if_cases Puts (is_turned c.state && not (has_any c.work_reports))
        (go_back c (leg_of c.back (s.nodes n.0).legs)) nothing
        (λ waits. back-puts (go_back c (leg_of c.back (s.nodes n.0).legs)) c (leg_of c.back (s.nodes n.0).legs)
        (whole-turned c (not-guarded c is_turned refl (and-left (is_turned c.state) _ waits))
        (not-true (has_any c.work_reports) (and-right (is_turned c.state) _ waits)))
        (each n k c is)) (λ waits. tt))
        (λ h. tt)

    -- at a tick, whatever the answer is a part of

    ticked-puts : (a : Answer) (c : CallRec) → IsGivenCall t o n c →
        ArePut (IsGivenCall t (grown n o a) n) (call_ticked t.wait (s.nodes n.0).legs c).calls
    ticked-puts a c here =
        let legs : List Leg = (s.nodes n.0).legs in
        if_cases (λ x. ArePut (IsGivenCall t (grown n o a) n) x.calls)
        (not (nat_eq t.wait 0) && (is_turned c.state && not (has_any c.work_reports))) (waits t.wait legs c) nothing
        (λ waiting. if_cases (λ x. ArePut (IsGivenCall t (grown n o a) n) x.calls) (nat_le t.wait (c.ticks + 1))
        (go_back c (leg_of c.back legs)) (call_put (record c { ticks = c.ticks + 1 }))
        (λ over. back-puts a c (leg_of c.back legs)
        (whole-turned c
        (not-guarded c is_turned refl (and-left (is_turned c.state) _ (and-right (not (nat_eq t.wait 0)) _ waiting)))
        (not-true (has_any c.work_reports)
        (and-right (is_turned c.state) _ (and-right (not (nat_eq t.wait 0)) _ waiting)))) here)
        (λ over. same-puts a c (record c { ticks = c.ticks + 1 })
        (record {
          egress = refl;
          protected = refl;
          backup = refl;
          work = inl refl;
          moves = waits-more (IsOfRoute t o) c (and-right (not (nat_eq t.wait 0)) _ waiting);
        }) here))
        (λ other. tt)

    all_ticked-puts : (a : Answer) (calls : List CallRec) → AllByRecursion (IsGivenCall t o n) calls →
        ArePut (IsGivenCall t (grown n o a) n) (all_ticked t.wait (s.nodes n.0).legs calls).calls
    all_ticked-puts a [] here = tt
    all_ticked-puts a (c ∷ calls) here =
        All-append _ (call_ticked t.wait (s.nodes n.0).legs c).calls _ (ticked-puts a c here.0)
        (all_ticked-puts a calls here.1)

    tick-puts : Puts (on_tick (local_node t n) (s.nodes n.0))
    tick-puts =
        all_ticked-puts (on_tick place (s.nodes n.0)) (s.nodes n.0).calls
        (all-calls_found (IsGivenCall t o n) (s.nodes n.0).calls rise (each n))

    told-puts : (f : Fibre) (code : ErrCode) (fibres : List Fibre) (b : Bool) →
        Puts (cond b (knows_down (local_node t n) (s.nodes n.0) f code fibres) nothing)
    told-puts f code fibres true = tt
    told-puts f code fibres false = tt

    item-puts : (i : DeskItem) → ((c : Command) → i ≡ Order c → is_valid t c ≡ true) →
        Puts (on_item (local_node t n) (s.nodes n.0) i)
    item-puts (Order (Setup k from to protected both via backup)) valid =
        setup-puts
        (record { call = k; from = from; egress = to; protected = protected; both = both; via = via; backup = backup })
        (and-right _ (has_backup_way t from to protected via backup) (valid _ refl))
        (find_call k (s.nodes n.0).calls)
    item-puts (Order (Release k from)) valid =
        release-holds (IsOfRoute t o) MayGo (IsGivenCall t o n) _
        (keeps (on_item place (s.nodes n.0) (Order (Release k from)))) place
        (s.nodes n.0) rep-here rise (each n) from (find_call k (s.nodes n.0).calls) (λ c is. tt)
    item-puts (Order (Protect k from)) valid =
        protect-holds (IsOfRoute t o) MayGo (IsGivenCall t o n) _
        (keeps (on_item place (s.nodes n.0) (Order (Protect k from)))) place
        (s.nodes n.0) rep-here rise (each n) k from (find_call k (s.nodes n.0).calls) refl
    item-puts (Order (Retry k from)) valid = retry-puts from k (find_call k (s.nodes n.0).calls) refl
    item-puts (Order (Revert k from)) valid = revert-puts from k (find_call k (s.nodes n.0).calls) refl
    item-puts (Order (Fail g)) valid = tt
    item-puts (Order (Repair g)) valid = tt
    item-puts (Alarm g) valid =
        told-puts g fibre_down_code ((s.nodes n.0).down ++ g ∷ [])
        (enters place g (own_link place g.link) && not (has_fibre (s.nodes n.0).down g))
    item-puts (Clear g) valid =
        told-puts g fibre_up_code (without_fibre g (s.nodes n.0).down)
        (enters place g (own_link place g.link) && has_fibre (s.nodes n.0).down g)

    first_item-puts : (items : List DeskItem) →
        ((c : Command) (rest : List DeskItem) → items ≡ Order c ∷ rest → is_valid t c ≡ true) →
        Puts (on_first_item (local_node t n) (s.nodes n.0) items)
    first_item-puts [] valid = tt
    first_item-puts (i ∷ items) valid = item-puts i (λ c is. valid c items (ap (λ j. j ∷ items) is))

    -- whatever the routes grow to
    first-puts : (u : NodeId) (ms : List Msg) (o' : Routes) → Grow o o' →
        ArePut (IsGivenCall t o' n) (on_first (local_node t n) (s.nodes n.0) u ms).calls
    first-puts u [] o' grow = tt
    first-puts u (m ∷ ms) o' grow =
        message-holds (IsOfRoute t o) MayGo (IsGivenCall t o n) (IsGivenCall t o' n) (still-beside t o o' n grow) place
        (s.nodes n.0) rep-here rise
        (each n) u m

-- Every event

link-puts : (t : Network) (o : Routes) (n : NodeId) (p : LocalNode) (s : NodeState) (found : Option LinkSpec) →
    ArePut (IsGivenCall t o n) (on_link p s found).calls
link-puts t o n p s None = tt
link-puts t o n p s (Some l) =
    if_cases (λ a. ArePut (IsGivenCall t o n) a.calls) (has_row (known_rows p s) l.id) nothing (learns (row_of l))
    (λ known. tt) (λ new. tt)

posted-nodes : (t : Network) (s : Mesh) (c : Command) → (posted t s c).nodes ≡ s.nodes
posted-nodes t s (Setup k from to protected both via backup) = refl
posted-nodes t s _ = refl

pub given-step : (t : Network) (s : Mesh) (e : MeshEvent) (o : Routes) → EachFollows t s o →
    ((n : ℕ) → CallsRise (s.nodes n).calls) →
    ((n : ℕ) (c : Command) (rest : List DeskItem) → s.desks n ≡ Order c ∷ rest → is_valid t c ≡ true) →
    EachGivenBeside t s o →
    EachGivenBeside t (step t s e) (λ l. or_route (o l) (first_route l (sent_at_ingress t s e l)))
given-step t s (Take d u) o f rise valid each =
    let o' : Routes = λ l. or_route (o l) (first_route l (sent_at_ingress t s (Take d u) l)) in
    let grow : Grow o o' = λ l route sent. rw sent refl in
    committed t (without_first s u.0 d.0) d (on_first (local_node t d) (s.nodes d.0) u (s.mail u.0 d.0)) o o' grow
    (first-puts t s d o f (rise d.0) each u (s.mail u.0 d.0) o' grow) each
given-step t s (Desk n) o f rise valid each =
    let a = on_first_item (local_node t n) (s.nodes n.0) (s.desks n.0) in
    committed t (without_item s n.0) n a o (grown n o a) (grown-grow n o a)
    (first_item-puts t s n o f (rise n.0) each (s.desks n.0) (valid n.0)) each
given-step t s (Tick n) o f rise valid each =
    let a = on_tick (local_node t n) (s.nodes n.0) in
    committed t s n a o (grown n o a) (grown-grow n o a) (tick-puts t s n o f (rise n.0) each) each
given-step t s (Learn n k) o f rise valid each =
    let o' : Routes = λ l. or_route (o l) None in
    committed t s n (on_link (local_node t n) (s.nodes n.0) (find_link t k)) o o' (λ l route sent. rw sent refl)
    (link-puts t o' n (local_node t n) (s.nodes n.0) (find_link t k)) each
given-step t s (Post c) o f rise valid each =
    let o' : Routes = λ l. or_route (o l) None in
    subst (λ (nodes : ℕ → NodeState). (n : NodeId) → EachCall (IsGivenCall t o' n) (nodes n.0).calls)
    (sym (posted-nodes t s c)) (grown-beside t s o o' (λ l route sent. rw sent refl) each)
