-- The wait to restore: it counts ticks and ends, and only ticks count (ITU-T G.808.1, wait to restore).
use Rattle.std.specs.Prelude.{◌≡◌, ◌≤◌, ◌<◌, ◌+◌, ℕ, List, [], Some, All}
use Rattle.ason_base.specs.{declared.calls.CallState.TheVariants.{Guarded, Turned}, declared.calls.Cause.TheVariants.Unset, declared.ids.CallNo.CallNo, declared.ids.NodeId.NodeId, declared.tables.CallRec.CallRec, Network.Network}
use Rattle.mesh_rules.specs.{declared.events.MeshEvent.MeshEvent, declared.events.MeshEvent.TheVariants.Tick, Calls.find_call, Events.{IsRun, after, step}, Machine.start}

-- a turned call waits where its working LSP isn't reported, if the network restores calls after a wait
abbrev pub Waits : ℕ → CallRec → Type 0
Waits wait c = (1 ≤ wait) × (c.state ≡ Turned) × (c.work_reports ≡ [])

-- d is what a tick makes of c: it waits a tick more, or at the end of the wait it goes back; any other call stays as it
-- is
pub record TickCounts (wait : ℕ) (c d : CallRec) : Type 0 where
  pub counts : Waits wait c → c.ticks + 1 < wait → d ≡ record c { ticks = c.ticks + 1 }
  pub ends : Waits wait c → wait ≤ c.ticks + 1 → d ≡ record c { state = Guarded; cause = Unset; ticks = 0 }
  pub else_stays : (Waits wait c → ⊥) → d ≡ c

-- over a tick at the node, of each call there
abbrev pub TicksCount : Network → List MeshEvent → Type 0
TicksCount t events =
    (n : NodeId) (k : CallNo) (c : CallRec) →
    find_call k ((after t start events).nodes n.0).calls ≡ Some c → (d : CallRec) ×
    (find_call k ((step t (after t start events) (Tick n)).nodes n.0).calls ≡ Some d) × TickCounts t.wait c d

-- over every network and every run
abbrev pub EveryTickCounts : Type 0
EveryTickCounts =
    (t : Network) (events : List MeshEvent) → IsRun t start events → TicksCount t events

-- so many ticks were counted, where this is the wait: fewer, and none where the network has no wait
pub record IsBelow (wait ticks : ℕ) : Type 0 where
  pub none : wait ≡ 0 → ticks ≡ 0
  pub below : 1 ≤ wait → ticks < wait

-- each call at each node
abbrev pub WaitsAreBelow : Network → List MeshEvent → Type 0
WaitsAreBelow t events =
    (n : ℕ) →
    All (λ c. IsBelow t.wait c.ticks) ((after t start events).nodes n).calls

-- over every network and every run
abbrev pub EveryWaitIsBelow : Type 0
EveryWaitIsBelow =
    (t : Network) (events : List MeshEvent) → IsRun t start events → WaitsAreBelow t events
