-- What changes a turned call, and where the code comes from that a call gives as its cause.
use Rattle.std.specs.Prelude.{◌≡◌, ◌≢◌, ◌⊎◌, ℕ, true, false, List, [], ◌∷◌, Some, IsTrue}
use Rattle.ason_base.specs.{Codes.{busy_code, label_code}, declared.calls.CallState.TheVariants.{Asking, Bare, Guarded, Stuck, Turned}, declared.calls.Cause.TheVariants.Code, declared.codes.ErrCode.ErrCode, declared.commands.Command.TheVariants.Revert, declared.commands.DeskItem.DeskItem, declared.commands.DeskItem.TheVariants.Order, declared.ids.CallNo.CallNo, declared.ids.LinkId.LinkId, declared.ids.Lsp.Lsp, declared.ids.NodeId.NodeId, declared.messages.Msg.Msg, declared.messages.Msg.TheVariants.{Notify, PathErr}, declared.tables.CallRec.CallRec, Network.Network}
use Rattle.mesh_rules.specs.{declared.events.MeshEvent.MeshEvent, declared.events.MeshEvent.TheVariants.{Desk, Take, Tick}, Calls.find_call, Events.{IsRun, after, is_enabled, step}, Machine.{Mesh, start}}
use Rattle.lsp_laws.specs.StandLaw.{is_released_by}

-- Events at the node n

-- it takes a Notify
pub data IsToldAt (s : Mesh) (n : ℕ) : MeshEvent → Type 0 where
  TakesNotify : (m u e at_node : NodeId) (l : Lsp) (k : LinkId) (code : ErrCode) (ms : List Msg) → n ≡ m.0 →
      s.mail u.0 m.0 ≡ Notify l e at_node k code ∷ ms → IsToldAt s n (Take m u)

-- it takes a PathErr that gives up an LSP, with this code
pub data IsRefusedAt (s : Mesh) (n : ℕ) (code : ErrCode) : MeshEvent → Type 0 where
  TakesRemoval : (m u e at_node : NodeId) (l : Lsp) (ms : List Msg) → n ≡ m.0 →
      s.mail u.0 m.0 ≡ PathErr l e at_node true code ∷ ms → IsRefusedAt s n code (Take m u)

-- it handles an order that the call k go back
pub data IsReverted (s : Mesh) (n : ℕ) (k : CallNo) : MeshEvent → Type 0 where
  HandlesRevert : (m from : NodeId) (items : List DeskItem) → n ≡ m.0 →
      s.desks m.0 ≡ Order (Revert k from) ∷ items → IsReverted s n k (Desk m)

-- it ticks
pub data HasTicked (n : ℕ) : MeshEvent → Type 0 where
  ItTicks : (m : NodeId) → n ≡ m.0 → HasTicked n (Tick m)

-- What becomes of a turned call c, by the event e: d. Only a tick of its node, a Notify that the node takes, or an
-- order changes it.
pub data TurnedBecomes (s : Mesh) (n : ℕ) (e : MeshEvent) (c d : CallRec) : Type 0 where
  IsUnchanged : d ≡ c → TurnedBecomes s n e c d
  -- a report: it is turned still, and its count begins anew where its working LSP is hit
  IsReported : IsToldAt s n e → d.state ≡ Turned → (d.ticks ≡ c.ticks) ⊎ ((d.ticks ≡ 0) × (d.work_reports ≢ [])) →
      TurnedBecomes s n e c d
  -- it goes back since its backup is hit and its working LSP is whole
  IsHit : IsToldAt s n e → d.state ≡ Guarded → d.work_reports ≡ [] → d.back_reports ≢ [] → TurnedBecomes s n e c d
  -- it goes back by order
  IsOrdered : IsReverted s n c.call e → d.state ≡ Guarded → TurnedBecomes s n e c d
  -- a tick: what it does is told by the wait
  IsTicked : HasTicked n e → TurnedBecomes s n e c d

-- over each event but the one that carries out the call's release
abbrev pub TurnedCallsWait : Network → List MeshEvent → Type 0
TurnedCallsWait t events =
    (e : MeshEvent) → IsTrue (is_enabled t (after t start events) e) → (n : ℕ) (k : CallNo) (c : CallRec) →
    find_call k ((after t start events).nodes n).calls ≡ Some c → c.state ≡ Turned →
    is_released_by (after t start events) n k e ≡ false → (d : CallRec) ×
    (find_call k ((step t (after t start events) e).nodes n).calls ≡ Some d)
    × TurnedBecomes (after t start events) n e c d

-- over every network and every run
abbrev pub EveryTurnedCallWaits : Type 0
EveryTurnedCallWaits = (t : Network) (events : List MeshEvent) → IsRun t start events → TurnedCallsWait t events

-- Where the code comes from that the call d has as its cause after the event e, c before it
pub data HasSource (s : Mesh) (n : ℕ) (e : MeshEvent) (c d : CallRec) (code : ErrCode) : Type 0 where
  -- it had it
  WasThere : c.cause ≡ Code code → HasSource s n e c d code
  -- its node takes it with a PathErr that gives up an LSP
  CameBack : IsRefusedAt s n code e → HasSource s n e c d code
  -- it is stuck, since its backup is busy
  IsStuckBusy : code ≡ busy_code → d.state ≡ Stuck → HasSource s n e c d code
  -- it stands without a backup, since the first link has no label for the way back
  LacksLabelBack : code ≡ label_code → d.state ≡ Bare → (c.state ≡ Asking) ⊎ (c.state ≡ Bare) →
      HasSource s n e c d code

-- over each event but the one that carries out the call's release
abbrev pub CodesHaveSources : Network → List MeshEvent → Type 0
CodesHaveSources t events =
    (e : MeshEvent) → IsTrue (is_enabled t (after t start events) e) → (n : ℕ) (k : CallNo) (c : CallRec) →
    find_call k ((after t start events).nodes n).calls ≡ Some c →
    is_released_by (after t start events) n k e ≡ false → (d : CallRec) ×
    (find_call k ((step t (after t start events) e).nodes n).calls ≡ Some d) × ((code : ErrCode) →
    d.cause ≡ Code code → HasSource (after t start events) n e c d code)

-- over every network and every run
abbrev pub EveryCodeHasSource : Type 0
EveryCodeHasSource = (t : Network) (events : List MeshEvent) → IsRun t start events → CodesHaveSources t events
