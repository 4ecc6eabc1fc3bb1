-- A retry alone: what decides whether a call turns that is stuck.
use Rattle.std.specs.{Prelude.{◌≡◌, ℕ, List, ◌∷◌, ◌++◌, Some, All}, List.AllByRecursion}
use Rattle.ason_base.specs.{Codes.busy_code, Network.Network, declared.calls.CallState.TheVariants.{Stuck, Turned}, declared.calls.Cause.TheVariants.Code, declared.commands.Command.TheVariants.Retry, declared.ids.Lsp.Lsp, declared.ids.NodeId.NodeId, declared.tables.CallRec.CallRec, declared.tables.Leg.Leg}
use Rattle.mesh_rules.specs.{declared.events.MeshEvent.MeshEvent, declared.events.MeshEvent.TheVariants.{Take, Desk, Tick, Learn, Post}, Calls.find_call, Events.{IsRun, after}, Machine.{Mesh, start}, Quiet.IsQuiet}
use Rattle.lsp_laws.specs.HopLaw.{leg_at}
use Rattle.mesh_laws.specs.{ActsLaw.MayRetry, CauseLaw.IsBusy, WaitLaw.Waits}

-- The premise

-- no call counts ticks until it goes back
abbrev pub NoneWaits : Network → Mesh → Type 0
NoneWaits t s = (n : ℕ) → All (λ c. Waits t.wait c → ⊥) (s.nodes n).calls

-- nothing is posted in this event, and a node ticks only if none waited in the state s
abbrev pub IsLeftAlone : Network → Mesh → MeshEvent → Type 0
IsLeftAlone t s (Take d u) = Unit {0}
IsLeftAlone t s (Desk n) = Unit {0}
IsLeftAlone t s (Tick n) = NoneWaits t s
IsLeftAlone t s (Learn n k) = Unit {0}
IsLeftAlone t s (Post c) = ⊥

-- At a quiet moment of the run the node n was ordered to try its call c again, which is stuck, with fibres reported of
-- its working LSP and none of its backup; and all was left alone since.
pub record IsRetriedAlone (t : Network) (events : List MeshEvent) (n : NodeId) (c : CallRec) : Type 0 where
  pub before : List MeshEvent
  pub since : List MeshEvent
  pub parts : before ++ Post (Retry c.call n) ∷ since ≡ events
  pub quiet : IsQuiet (after t start before)
  pub found : find_call c.call ((after t start before).nodes n.0).calls ≡ Some c
  pub may : MayRetry c
  pub only : AllByRecursion (IsLeftAlone t (after t start before)) since

-- What decides

-- At a node where the LSP has a leg, the leg is busy: that of another backup that is being activated, is activated, or
-- waits after that to be let go uses a label that it uses.
pub record IsBusySomewhere (s : Mesh) (l : Lsp) : Type 0 where
  pub node : NodeId
  pub leg : Leg
  pub there : leg_at s l node ≡ Some leg
  pub busy : IsBusy (s.nodes node.0).legs leg

-- what becomes of the call of the node n, where its backup is the LSP b: it turns just where b was busy nowhere
pub data RetryEnds (s s' : Mesh) (n : NodeId) (c : CallRec) (b : Lsp) : Type 0 where
  HasTurned : (d : CallRec) → find_call c.call (s'.nodes n.0).calls ≡ Some d → d.state ≡ Turned →
      (IsBusySomewhere s b → ⊥) → RetryEnds s s' n c b
  IsStuckAgain : (d : CallRec) → find_call c.call (s'.nodes n.0).calls ≡ Some d → d.state ≡ Stuck →
      d.cause ≡ Code busy_code → IsBusySomewhere s b → RetryEnds s s' n c b

-- once nothing is under way again; s is the quiet state before the order
abbrev pub RetriesEnd : Network → List MeshEvent → Type 0
RetriesEnd t events =
    (n : NodeId) (c : CallRec) (alone : IsRetriedAlone t events n c) → IsQuiet (after t start events) → (b : Lsp) ×
    (c.back ≡ Some b) × RetryEnds (after t start alone.before) (after t start events) n c b

-- over every network and every run
abbrev pub EveryRetryIsDecided : Type 0
EveryRetryIsDecided =
    (t : Network) (events : List MeshEvent) → IsRun t start events → RetriesEnd t events
