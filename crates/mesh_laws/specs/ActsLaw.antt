-- An order that a node handles does what it says.
use Rattle.std.specs.Prelude.{◌≡◌, ◌≢◌, ◌⊎◌, ℕ, Bool, List, [], ◌∷◌, Option, Some, None, All}
use Rattle.ason_base.specs.{declared.calls.CallState.TheVariants.{Asking, Bare, Pairing, Guarded, Turning, Turned, Stuck, Blocked}, declared.calls.Phase.Phase, declared.calls.Phase.TheVariants.{Asked, Closing, Falling}, declared.commands.Command.TheVariants.{Setup, Release, Protect, Retry, Revert, Fail, Repair}, declared.commands.DeskItem.DeskItem, declared.commands.DeskItem.TheVariants.{Order, Alarm, Clear}, declared.ids.CallNo.CallNo, declared.ids.Lsp.Lsp, declared.ids.NodeId.NodeId, declared.steps.Step.Step, declared.tables.CallRec.CallRec, declared.tables.Leg.Leg, Network.{IsTopology, Network}}
use Rattle.mesh_rules.specs.{declared.events.MeshEvent.MeshEvent, declared.events.MeshEvent.TheVariants.Desk, Calls.find_call, Events.{IsRun, after, route_of, step}, Legs.find_leg, Machine.{Mesh, start}, State.NodeState}
use Rattle.mesh_laws.specs.CauseLaw.{BackupCause, IsBusy, SetupCause}

-- Torn legs

abbrev pub IsTornPhase : Phase → Type 0
IsTornPhase q = (q ≡ Closing) ⊎ (q ≡ Falling)

-- an Asked leg has no label in; a torn one has none, and no back label out: its previous node may use them for others
pub record GivesUpLabels (g : Leg) : Type 0 where
  pub asked : g.phase ≡ Asked → g.in_label ≡ None
  pub torn : IsTornPhase g.phase → (g.in_label ≡ None) × (g.back_out ≡ None)

-- each leg at each node
abbrev pub TornLegsGiveUp : Network → List MeshEvent → Type 0
TornLegsGiveUp t events =
    (n : ℕ) →
    All GivesUpLabels ((after t start events).nodes n).legs

-- over every network and every run
abbrev pub EveryTornLegGivesUp : Type 0
EveryTornLegGivesUp =
    (t : Network) (events : List MeshEvent) → IsRun t start events → TornLegsGiveUp t events

-- Orders

-- no node and no list of messages has changed
pub record IsUnmoved (s s' : Mesh) : Type 0 where
  pub nodes : (m : ℕ) → s'.nodes m ≡ s.nodes m
  pub mail : (u d : ℕ) → s'.mail u d ≡ s.mail u d

-- the call's backup has a leg here, and that is busy
pub record BackupIsBusy (legs : List Leg) (c : CallRec) : Type 0 where
  pub backup : Lsp
  pub own : Leg
  pub named : c.back ≡ Some backup
  pub own_there : find_leg backup legs ≡ Some own
  pub busy : IsBusy legs own

-- The order is about the call k at node n. Where it stands and may be handled so, it is what becomes of it afterwards;
-- else nothing changes.
pub record ActsOn (s s' : Mesh) (n : ℕ) (k : CallNo) (May : CallRec → Type 0) (Becomes : CallRec → CallRec → Type 0) :
    Type 0 where
  pub acts : (c : CallRec) → find_call k (s.nodes n).calls ≡ Some c → May c → (d : CallRec) ×
      (find_call k (s'.nodes n).calls ≡ Some d) × Becomes c d
  pub else_stays : ((c : CallRec) → find_call k (s.nodes n).calls ≡ Some c → May c → ⊥) → IsUnmoved s s'

-- a setup of a new call: the call stands, as it was ordered; its working LSP is asked for, or the call says why not
pub record IsSetUp (t : Network) (x : NodeState) (n : NodeId) (k : CallNo) (to : NodeId) (protected both : Bool)
    (via backup : Option (List Step)) (d : CallRec) : Type 0 where
  pub number : d.call ≡ k
  pub egress : d.egress ≡ to
  pub protected_so : d.protected ≡ protected
  pub backup_so : d.backup ≡ backup
  pub state : (d.state ≡ Asking) ⊎ ((d.state ≡ Blocked) × SetupCause t x n to via both d.cause)

pub record SetsUp (s s' : Mesh) (n : ℕ) (k : CallNo) (P : CallRec → Type 0) : Type 0 where
  pub new : find_call k (s.nodes n).calls ≡ None → (d : CallRec) × (find_call k (s'.nodes n).calls ≡ Some d) × P d
  pub known : (c : CallRec) → find_call k (s.nodes n).calls ≡ Some c → IsUnmoved s s'

-- a release: the call is gone, and each leg of it here is torn
pub record Releases (s s' : Mesh) (n : ℕ) (k : CallNo) : Type 0 where
  pub gone : find_call k (s'.nodes n).calls ≡ None
  pub torn : (c : CallRec) (l : Lsp) (g : Leg) → find_call k (s.nodes n).calls ≡ Some c →
      (c.work ≡ Some l) ⊎ (c.back ≡ Some l) → find_leg l (s'.nodes n).legs ≡ Some g → IsTornPhase g.phase
  pub unknown : find_call k (s.nodes n).calls ≡ None → IsUnmoved s s'

abbrev pub MayRetry : CallRec → Type 0
MayRetry c = (c.state ≡ Stuck) × (c.work_reports ≢ []) × (c.back_reports ≡ [])

abbrev pub MayRevert : CallRec → Type 0
MayRevert c = (c.state ≡ Turned) × (c.work_reports ≡ [])

abbrev pub OrderActs : Network → (Lsp → Option (List Step)) → Mesh → Mesh → NodeId → DeskItem → Type 0
OrderActs t o s s' n (Order (Setup k from to protected both via backup)) =
    SetsUp s s' n.0 k (IsSetUp t (s.nodes n.0) n k to protected both via backup)
OrderActs t o s s' n (Order (Release k from)) = Releases s s' n.0 k
OrderActs t o s s' n (Order (Retry k from)) =
    ActsOn s s' n.0 k MayRetry (λ c d. (d.state ≡ Turning) ⊎ ((d.state ≡ Stuck) × BackupIsBusy (s.nodes n.0).legs c))
OrderActs t o s s' n (Order (Revert k from)) = ActsOn s s' n.0 k MayRevert (λ c d. d.state ≡ Guarded)
OrderActs t o s s' n (Order (Protect k from)) =
    ActsOn s s' n.0 k (λ c. c.state ≡ Bare)
    (λ c d. (d.state ≡ Pairing) ⊎ ((d.state ≡ Bare) × BackupCause t o (s.nodes n.0) n c d.cause))
OrderActs t o s s' n (Order (Fail g)) = Unit {0}
OrderActs t o s s' n (Order (Repair g)) = Unit {0}
OrderActs t o s s' n (Alarm f) = Unit {0}
OrderActs t o s s' n (Clear f) = Unit {0}

-- over the event in which a node handles the first item of its desk
abbrev pub OrdersAct : Network → List MeshEvent → Type 0
OrdersAct t events =
    (n : NodeId) (i : DeskItem)
    (items : List DeskItem) → (after t start events).desks n.0 ≡ i ∷ items →
    OrderActs t (route_of t start events) (after t start events) (step t (after t start events) (Desk n)) n i

-- over every topology and every run
abbrev pub EveryOrderActs : Type 0
EveryOrderActs =
    (t : Network) (events : List MeshEvent) → IsTopology t → IsRun t start events → OrdersAct t events
