-- A call stands until its release, in every state, and its state moves as a table says.
use Rattle.std.specs.Prelude.{◌≡◌, ◌≢◌, ◌⊎◌, ℕ, Bool, true, false, List, [], Some, IsTrue}
use Rattle.ason_base.specs.{declared.calls.CallState.CallState, declared.calls.CallState.TheVariants.{Asking, Bare, Blocked, Guarded, Pairing, Stuck, Turned, Turning}, declared.calls.Cause.TheVariants.BackDown, declared.ids.CallNo.CallNo, declared.tables.CallRec.CallRec, Network.Network}
use Rattle.mesh_rules.specs.{declared.events.MeshEvent.MeshEvent, Calls.find_call, Events.{IsRun, after, is_enabled, step}, Machine.start}
use Rattle.lsp_laws.specs.StandLaw.{is_released_by}

-- the states that a call of the first one may have after one event
abbrev pub may_move : CallState → CallState → Bool
may_move Asking Asking = true
may_move Asking Bare = true
may_move Asking Pairing = true
may_move Asking Blocked = true
may_move Bare Bare = true
may_move Bare Pairing = true
may_move Pairing Pairing = true
may_move Pairing Bare = true
may_move Pairing Guarded = true
may_move Pairing Turning = true
may_move Pairing Stuck = true
may_move Guarded Guarded = true
may_move Guarded Turning = true
may_move Guarded Stuck = true
may_move Turning Turning = true
may_move Turning Turned = true
may_move Turning Stuck = true
may_move Turning Guarded = true
may_move Turned Turned = true
may_move Turned Guarded = true
may_move Stuck Stuck = true
may_move Stuck Guarded = true
may_move Stuck Turning = true
may_move Blocked Blocked = true
may_move before later = false

-- fibres of both LSPs of the call are reported
abbrev pub IsDownTwice : CallRec → Type 0
IsDownTwice d = (d.work_reports ≢ []) × (d.back_reports ≢ [])

-- d is the call c after an event: it stands as it was ordered, and has moved as the table says; a blocked call keeps
-- its cause; and a cause BackDown that it hadn't before comes only where fibres of both its LSPs are reported
pub record MovesOn (c d : CallRec) : Type 0 where
  pub number : d.call ≡ c.call
  pub egress : d.egress ≡ c.egress
  pub protected_so : d.protected ≡ c.protected
  pub backup_so : d.backup ≡ c.backup
  pub moves : IsTrue (may_move c.state d.state)
  pub blocked : c.state ≡ Blocked → d.cause ≡ c.cause
  pub down : d.cause ≡ BackDown → (c.cause ≡ BackDown) ⊎ IsDownTwice d

-- over each event but the one that carries out the call's release
abbrev pub CallsMoveOn : Network → List MeshEvent → Type 0
CallsMoveOn t events =
    (e : MeshEvent) →
    IsTrue (is_enabled t (after t start events) e) → (n : ℕ) (k : CallNo) (c : CallRec) →
    find_call k ((after t start events).nodes n).calls ≡ Some c → is_released_by (after t start events) n k e ≡ false →
    (d : CallRec) × (find_call k ((step t (after t start events) e).nodes n).calls ≡ Some d) × MovesOn c d

-- over every network and every run
abbrev pub EveryCallMovesOn : Type 0
EveryCallMovesOn =
    (t : Network) (events : List MeshEvent) → IsRun t start events → CallsMoveOn t events

-- A blocked call stays as it is until its release.
abbrev pub BlockedCallsStay : Network → List MeshEvent → Type 0
BlockedCallsStay t events =
    (e : MeshEvent) →
    IsTrue (is_enabled t (after t start events) e) → (n : ℕ) (k : CallNo) (c : CallRec) →
    find_call k ((after t start events).nodes n).calls ≡ Some c → c.state ≡ Blocked →
    is_released_by (after t start events) n k e ≡ false →
    find_call k ((step t (after t start events) e).nodes n).calls ≡ Some c

-- over every network and every run
abbrev pub EveryBlockedCallStays : Type 0
EveryBlockedCallStays =
    (t : Network) (events : List MeshEvent) → IsRun t start events → BlockedCallsStay t events
