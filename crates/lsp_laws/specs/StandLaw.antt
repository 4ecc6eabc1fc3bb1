-- A call stands until its release, and so does its working LSP; once its backup is reserved, that stands too (shared
-- mesh restoration: RFC 4872, section 8).
use Rattle.std.specs.Prelude.{◌≡◌, ◌==◌, ◌&&◌, ℕ, Bool, true, false, List, [], ◌∷◌, Some, IsTrue}
use Rattle.ason_base.specs.{declared.calls.CallState.CallState, declared.calls.CallState.TheVariants.{Asking, Blocked, Guarded, Stuck, Turned, Turning}, declared.commands.Command.TheVariants.Release, declared.commands.DeskItem.DeskItem, declared.commands.DeskItem.TheVariants.Order, declared.ids.CallNo.CallNo, declared.tables.CallRec.CallRec, Network.Network}
use Rattle.mesh_rules.specs.{declared.events.MeshEvent.MeshEvent, declared.events.MeshEvent.TheVariants.Desk, Calls.find_call, Events.{IsRun, after, is_enabled, step}, Machine.{Mesh, start}}

-- the working LSP is cross-connected: the call is neither asking nor blocked
abbrev pub is_standing_call : CallState → Bool
is_standing_call Asking = false
is_standing_call Blocked = false
is_standing_call _ = true

-- the backup is reserved
abbrev pub has_backup : CallState → Bool
has_backup Guarded = true
has_backup Turning = true
has_backup Turned = true
has_backup Stuck = true
has_backup _ = false

-- d is the call c after an event: it stands with its number, its egress and its working LSP, and its backup stays
-- reserved
pub record CallStandsOn (c d : CallRec) : Type 0 where
  pub number : d.call ≡ c.call
  pub egress : d.egress ≡ c.egress
  pub work : d.work ≡ c.work
  pub stands : IsTrue (is_standing_call d.state)
  pub back : IsTrue (has_backup c.state) → IsTrue (has_backup d.state) × (d.back ≡ c.back)

-- the item is the release of this call
abbrev pub is_release_of : CallNo → DeskItem → Bool
is_release_of k (Order (Release m from)) = m.0 == k.0
is_release_of k item = false

abbrev pub is_first_release : CallNo → List DeskItem → Bool
is_first_release k [] = false
is_first_release k (i ∷ items) = is_release_of k i

-- the event carries out the release of the call k at node n
abbrev pub is_released_by : Mesh → ℕ → CallNo → MeshEvent → Bool
is_released_by s n k (Desk m) = m.0 == n && is_first_release k (s.desks n)
is_released_by s n k e = false

-- over one event
abbrev pub CallsStand : Network → Mesh → MeshEvent → Type 0
CallsStand t s e =
    (n : ℕ) (k : CallNo) (c : CallRec) → find_call k (s.nodes n).calls ≡ Some c → IsTrue (is_standing_call c.state) →
    is_released_by s n k e ≡ false → (d : CallRec) × (find_call k ((step t s e).nodes n).calls ≡ Some d) × CallStandsOn c d

-- none of these events carries out the release of the call k at node n
abbrev pub IsUnreleased : Network → Mesh → ℕ → CallNo → List MeshEvent → Type 0
IsUnreleased t s n k [] = Unit {0}
IsUnreleased t s n k (e ∷ events) = (is_released_by s n k e ≡ false) × IsUnreleased t (step t s e) n k events

-- over these events
abbrev pub CallsStandOver : Network → Mesh → List MeshEvent → Type 0
CallsStandOver t s events =
    (n : ℕ) (k : CallNo) (c : CallRec) → find_call k (s.nodes n).calls ≡ Some c → IsTrue (is_standing_call c.state) →
    IsUnreleased t s n k events →
    (d : CallRec) × (find_call k ((after t s events).nodes n).calls ≡ Some d) × CallStandsOn c d

-- over every network, after every run, over each event that is enabled there
abbrev pub EveryCallStands : Type 0
EveryCallStands =
    (t : Network) (events : List MeshEvent) → IsRun t start events → (e : MeshEvent) →
    IsTrue (is_enabled t (after t start events) e) → CallsStand t (after t start events) e

-- and over any events with which the run goes on
abbrev pub EveryCallStandsUntilReleased : Type 0
EveryCallStandsUntilReleased =
    (t : Network) (events : List MeshEvent) → IsRun t start events → (later : List MeshEvent) →
    IsRun t (after t start events) later → CallsStandOver t (after t start events) later

-- Over one event: a turned call goes back only where no fibre of its working LSP is reported to be down.
abbrev pub TurnedCallsStay : Network → Mesh → MeshEvent → Type 0
TurnedCallsStay t s e =
    (n : ℕ) (k : CallNo) (c d : CallRec) → find_call k (s.nodes n).calls ≡ Some c →
    find_call k ((step t s e).nodes n).calls ≡ Some d → c.state ≡ Turned → (d.state ≡ Turned → ⊥) →
    d.work_reports ≡ []

-- And a guarded call leaves that state only where one is, or by its release.
abbrev pub GuardedCallsStay : Network → Mesh → MeshEvent → Type 0
GuardedCallsStay t s e =
    (n : ℕ) (k : CallNo) (c d : CallRec) → find_call k (s.nodes n).calls ≡ Some c →
    find_call k ((step t s e).nodes n).calls ≡ Some d → c.state ≡ Guarded → (d.state ≡ Guarded → ⊥) →
    d.work_reports ≡ [] → ⊥

abbrev pub EveryGuardedCallStays : Type 0
EveryGuardedCallStays =
    (t : Network) (events : List MeshEvent) → IsRun t start events → (e : MeshEvent) →
    IsTrue (is_enabled t (after t start events) e) → GuardedCallsStay t (after t start events) e

-- over every network, after every run, over each event that is enabled there
abbrev pub EveryTurnedCallStays : Type 0
EveryTurnedCallStays =
    (t : Network) (events : List MeshEvent) → IsRun t start events → (e : MeshEvent) →
    IsTrue (is_enabled t (after t start events) e) → TurnedCallsStay t (after t start events) e
