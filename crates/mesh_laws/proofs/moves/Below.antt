-- No call counts as many ticks as the wait.
use Rattle.std.proofs.{Common.{◌≡◌, ℕ, Bool, true, false, cond, nat_eq, List, [], ◌∷◌, refl}, lemmas.List.Elements.All-from_recursion}
use Rattle.std.specs.Prelude.{Option, Some, None}
use Rattle.ason_base.specs.{declared.commands.Command.TheVariants.{Setup, Release, Protect, Retry, Revert, Fail, Repair}, declared.commands.Command.Command, declared.commands.DeskItem.DeskItem, declared.commands.DeskItem.TheVariants.{Order, Alarm, Clear}, declared.ids.NodeId.NodeId, declared.messages.Msg.Msg, declared.network.LinkSpec.LinkSpec, declared.tables.CallRec.CallRec, Network.{Network, find_link, row_of}}
use Rattle.mesh_rules.specs.{declared.events.MeshEvent.MeshEvent, declared.events.MeshEvent.TheVariants.{Take, Desk, Tick, Learn, Post}, Calls.find_call, Changes.{Answer, changed, learns, nothing}, Events.{IsRun, after, on_first, on_first_item, posted, step}, KnownRows.{has_row, known_rows}, Learnt.on_link, LocalNodes.{LocalNode, local_node}, Machine.{Mesh, commit, start, without_first, without_item}, Orders.on_item, State.NodeState, Waits.on_tick}
use Rattle.mesh_nodes.specs.Order.{CallsRise}
use Rattle.mesh_nodes.proofs.{CallList.all-calls_found, Cases.if_cases}
use Rattle.lsp_laws.proofs.{nodes.CallChanges.{ArePut, EachCall, MayGo, each-after}, nodes.CallWalk.message-holds, nodes.CallWays.{CallBecomes, Way}, nodes.OrderWalk.{alarm-holds, clear-holds, protect-holds, release-holds, retry-holds, revert-holds, tick-holds}, nodes.CallOver.AnySent, nodes.SetupsHold.setup-holds, nodes.Facts.MeshFacts, nodes.NodeRuns.{facts-hold, facts-start, facts-step}}
use Rattle.mesh_laws.proofs.{moves.Moved.becomes-moved, moves.Moving.none-below}
use Rattle.mesh_laws.specs.WaitLaw.{EveryWaitIsBelow, IsBelow}

-- each call of a node has waited fewer ticks than this
abbrev Below : ℕ → CallRec → Type 0
Below wait c = IsBelow wait c.ticks

module _ (wait : ℕ) (p : LocalNode) (s : NodeState) (within : p.wait ≡ wait) (rise : CallsRise s.calls)
    (each : EachCall (Below wait) s.calls) where
  abbrev Puts : Answer → Type 0
  Puts a = ArePut (Below wait) a.calls

  -- whatever came
  abbrev Any : Way → Type 0
  Any way = Unit {0}

  keeps : (c d : CallRec) → CallBecomes p s (λ way. Unit {0}) AnySent c d → Below wait c → Below wait d
  keeps c d way here = (becomes-moved wait p s Any AnySent within c d way).ticks here

  item-below : (i : DeskItem) → Puts (on_item p s i)
  item-below (Order (Setup j from to protected both via backup)) =
      setup-holds MayGo p s
      (record { call = j; from = from; egress = to; protected = protected; both = both; via = via; backup = backup })
      (λ a. Below wait) (λ a cause known. none-below wait) (λ route out over first ordered has. none-below wait)
      (find_call j s.calls)
  item-below (Order (Release j from)) =
      release-holds MayGo (Below wait) (Below wait) Any AnySent p s keeps rise each from (find_call j s.calls)
      (λ c is. tt)
  item-below (Order (Protect j from)) =
      protect-holds MayGo (Below wait) (Below wait) Any AnySent p s keeps rise each j from (find_call j s.calls) refl tt
  item-below (Order (Retry j from)) =
      retry-holds MayGo (Below wait) (Below wait) Any AnySent p s keeps rise each j from (find_call j s.calls) refl tt
  item-below (Order (Revert j from)) =
      revert-holds MayGo (Below wait) (Below wait) Any AnySent p s keeps rise each j from (find_call j s.calls) refl tt
  item-below (Order (Fail g)) = tt
  item-below (Order (Repair g)) = tt
  item-below (Alarm f) = alarm-holds MayGo (Below wait) (Below wait) Any AnySent p s keeps rise each f
  item-below (Clear f) = clear-holds MayGo (Below wait) (Below wait) Any AnySent p s keeps rise each f

  first_item-below : (items : List DeskItem) → Puts (on_first_item p s items)
  first_item-below [] = tt
  first_item-below (i ∷ items) = item-below i

  first-below : (u : NodeId) (ms : List Msg) → Puts (on_first p s u ms)
  first-below u [] = tt
  first-below u (m ∷ ms) =
      message-holds MayGo (Below wait) (Below wait) Any AnySent p s keeps rise each u m (λ way is. tt) tt

  tick-below : Puts (on_tick p s)
  tick-below = tick-holds MayGo (Below wait) (Below wait) Any AnySent p s keeps rise each tt

  link-below : (o : Option LinkSpec) → Puts (on_link p s o)
  link-below None = tt
  link-below (Some l) =
      if_cases Puts (has_row (known_rows p s) l.id) nothing (learns (row_of l)) (λ known. tt) (λ new. tt)

abbrev EachBelow : ℕ → Mesh → Type 0
EachBelow wait s = (n : ℕ) → EachCall (Below wait) (s.nodes n).calls

commit-below : (wait : ℕ) (s : Mesh) (m : NodeId) (a : Answer) → ArePut (Below wait) a.calls → EachBelow wait s →
    EachBelow wait (commit s m.0 a)
commit-below wait s m a puts each n = go (nat_eq n m.0)
  where
    go : (b : Bool) → EachCall (Below wait) (cond b (changed (s.nodes n) a) (s.nodes n)).calls
    go true = each-after (Below wait) a.calls (s.nodes n).calls puts (each n)
    go false = each n

posted-below : (wait : ℕ) (t : Network) (s : Mesh) (c : Command) → EachBelow wait s → EachBelow wait (posted t s c)
posted-below wait t s (Setup k from to protected both via backup) each = each
posted-below wait t s (Release k from) each = each
posted-below wait t s (Protect k from) each = each
posted-below wait t s (Retry k from) each = each
posted-below wait t s (Revert k from) each = each
posted-below wait t s (Fail g) each = each
posted-below wait t s (Repair g) each = each

step-below : (t : Network) (s : Mesh) (e : MeshEvent) → MeshFacts t s → EachBelow t.wait s → EachBelow t.wait (step t s e)
step-below t s (Take d u) facts each =
    commit-below t.wait (without_first s u.0 d.0) d (on_first (local_node t d) (s.nodes d.0) u (s.mail u.0 d.0))
    (first-below t.wait (local_node t d) (s.nodes d.0) refl (facts.node d.0).calls_rise (each d.0) u (s.mail u.0 d.0))
    each
step-below t s (Desk n) facts each =
    commit-below t.wait (without_item s n.0) n (on_first_item (local_node t n) (s.nodes n.0) (s.desks n.0))
    (first_item-below t.wait (local_node t n) (s.nodes n.0) refl (facts.node n.0).calls_rise (each n.0) (s.desks n.0))
    each
step-below t s (Tick n) facts each =
    commit-below t.wait s n (on_tick (local_node t n) (s.nodes n.0))
    (tick-below t.wait (local_node t n) (s.nodes n.0) refl (facts.node n.0).calls_rise (each n.0)) each
step-below t s (Learn n k) facts each =
    commit-below t.wait s n (on_link (local_node t n) (s.nodes n.0) (find_link t k))
    (link-below t.wait (local_node t n) (s.nodes n.0) refl (facts.node n.0).calls_rise (each n.0) (find_link t k)) each
step-below t s (Post c) facts each = posted-below t.wait t s c each

run-below : (t : Network) (s : Mesh) (events : List MeshEvent) → MeshFacts t s → EachBelow t.wait s →
    IsRun t s events → EachBelow t.wait (after t s events)
run-below t s [] facts each run = each
run-below t s (e ∷ events) facts each run =
    run-below t (step t s e) events (facts-step t s e run.0 facts) (step-below t s e facts each) run.1

-- over every network and every run
pub every_wait : EveryWaitIsBelow
every_wait t events run n =
    let calls = ((after t start events).nodes n).calls in
    All-from_recursion (Below t.wait) calls
    (all-calls_found (Below t.wait) calls ((facts-hold t events run).node n).calls_rise
    (run-below t start events (facts-start t) (λ m k c found. absurd (cc found)) run n))
