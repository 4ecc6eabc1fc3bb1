-- What stands once nothing is under way: the legs of calls that wait for nothing, and nothing else.
use Rattle.std.specs.Prelude.{◌≡◌, ◌≢◌, ◌≤◌, ◌⊎◌, ℕ, Bool, true, false, List, [], length, slice_get, Option, Some, None, IsTrue, All}
use Rattle.ason_base.specs.{declared.calls.CallState.CallState, declared.calls.CallState.TheVariants.{Asking, Bare, Pairing, Guarded, Turning, Turned, Stuck}, declared.calls.Phase.Phase, declared.calls.Phase.TheVariants.{Held, Live}, declared.calls.Role.Role, declared.calls.Role.TheVariants.{Work, Back}, declared.ids.Fibre.Fibre, declared.ids.Lsp.Lsp, declared.ids.NodeId.NodeId, declared.network.LinkSpec.LinkSpec, declared.steps.Step.Step, declared.tables.CallRec.CallRec, declared.tables.Leg.Leg, Lsps.has_fibre, Network.{IsTopology, Network, find_link, receiver_of, sender_of}, Routes.makes_route}
use Rattle.mesh_rules.specs.{declared.events.MeshEvent.MeshEvent, Calls.{find_call, names}, Events.{IsRun, after, route_of}, Failures.is_cut, LocalNodes.fibre_out, Machine.{Mesh, start}, Quiet.IsQuiet}
use Rattle.lsp_laws.specs.{HopLaw.{IsNodeOnRoute, leg_at}, ReportLaw.place_at}
use Rattle.mesh_laws.specs.AloneLaw.{Calm}

-- Legs and calls

-- the phase that the legs of a call's working LSP and of its backup have in this state, once nothing is under way
abbrev pub rested_phase : CallState → Role → Option Phase
rested_phase Bare Work = Some Live
rested_phase Guarded Work = Some Live
rested_phase Guarded Back = Some Held
rested_phase Turned Work = Some Live
rested_phase Turned Back = Some Live
rested_phase Stuck Work = Some Live
rested_phase Stuck Back = Some Held
rested_phase state role = None

-- the leg's LSP is the working LSP or the backup of a call that stands at its ingress, and the leg has the phase of the
-- call's state
pub record IsOfCall (s : Mesh) (g : Leg) : Type 0 where
  pub call : CallRec
  pub there : find_call call.call (s.nodes g.lsp.ingress.0).calls ≡ Some call
  pub named : IsTrue (names g.lsp call)
  pub phase : rested_phase call.state g.role ≡ Some g.phase

-- the leg's LSP has a leg in the same phase at each node of the route that its ingress sent it on, and none elsewhere
pub record StandsAlong (t : Network) (events : List MeshEvent) (g : Leg) : Type 0 where
  pub route : List Step
  pub sent : route_of t start events g.lsp ≡ Some route
  pub leads : IsTrue (makes_route t g.lsp.ingress g.egress route)
  pub all : (i : ℕ) → i ≤ length route → (h : Leg) ×
      (leg_at (after t start events) g.lsp (place_at route g.egress i) ≡ Some h) × (h.phase ≡ g.phase)
  pub only : (n : NodeId) (h : Leg) → leg_at (after t start events) g.lsp n ≡ Some h →
      (n ≡ g.egress) ⊎ IsNodeOnRoute route n

-- the call waits for no answer
abbrev pub is_call_settled : CallState → Bool
is_call_settled Asking = false
is_call_settled Pairing = false
is_call_settled Turning = false
is_call_settled _ = true

-- no node keeps a leg, and so no label, that isn't of a call; and no call waits for an answer
pub record NothingIsLeft (t : Network) (events : List MeshEvent) : Type 0 where
  pub legs : (n : ℕ) → All (IsOfCall (after t start events)) ((after t start events).nodes n).legs
  pub along : (n : ℕ) → All (StandsAlong t events) ((after t start events).nodes n).legs
  pub calls : (n : ℕ) → All (λ c. IsTrue (is_call_settled c.state)) ((after t start events).nodes n).calls
  -- with no call there is no leg
  pub emptied : ((n : ℕ) → ((after t start events).nodes n).calls ≡ []) → (n : ℕ) →
      ((after t start events).nodes n).legs ≡ []

-- over every network and every run
abbrev pub NothingIsLeftAtRest : Type 0
NothingIsLeftAtRest =
    (t : Network) (events : List MeshEvent) → IsRun t start events → IsQuiet (after t start events) →
    NothingIsLeft t events

-- Light

-- the two directions of one link
pub record AreOpposite (e f : Fibre) : Type 0 where
  pub link : e.link ≡ f.link
  pub forward : e.forward ≢ f.forward

-- the light of this label comes to the leg over this fibre: on its way there, or on the way back
pub data Arrives : Fibre → ℕ → Leg → Type 0 where
  Onward : {f : Fibre} {x : ℕ} {g : Leg} → g.in_fibre ≡ Some f → g.in_label ≡ Some x → Arrives f x g
  Returning : {f e : Fibre} {x : ℕ} {g : Leg} → g.out_fibre ≡ Some e → AreOpposite e f → g.back_in ≡ Some x →
      Arrives f x g

-- the leg sends light of this label on over this fibre
pub data Leaves : Fibre → ℕ → Leg → Type 0 where
  GoesOn : {f : Fibre} {x : ℕ} {g : Leg} → g.out_fibre ≡ Some f → g.out_label ≡ Some x → Leaves f x g
  GoesBack : {f e : Fibre} {x : ℕ} {g : Leg} → g.in_fibre ≡ Some e → AreOpposite e f → g.back_out ≡ Some x →
      Leaves f x g

-- the LSP has a leg at this node that is so
abbrev pub HasLeg : Mesh → Lsp → NodeId → (Leg → Type 0) → Type 0
HasLeg s l n P = (g : Leg) × (leg_at s l n ≡ Some g) × P g

-- Over each fibre, LSP by LSP: the label that is sent at the one end is taken at the other, and the other way round.
pub record SentIsTaken (t : Network) (s : Mesh) : Type 0 where
  pub taken : (f : Fibre) (x : ℕ) (u d : NodeId) (l : Lsp) → sender_of t f ≡ Some u → receiver_of t f ≡ Some d →
      HasLeg s l u (Leaves f x) → HasLeg s l d (Arrives f x)
  pub sent : (f : Fibre) (x : ℕ) (u d : NodeId) (l : Lsp) → sender_of t f ≡ Some u → receiver_of t f ≡ Some d →
      HasLeg s l d (Arrives f x) → HasLeg s l u (Leaves f x)

abbrev pub EachSentIsTakenAtRest : Type 0
EachSentIsTakenAtRest =
    (t : Network) (events : List MeshEvent) → IsRun t start events → IsQuiet (after t start events) →
    SentIsTaken t (after t start events)

-- Reports

-- of each fibre of the route that the LSP was sent on: it is reported just where it is physically down
abbrev pub ReportsAreTrue : Network → List MeshEvent → Lsp → List Fibre → Type 0
ReportsAreTrue t events l fibres =
    (route : List Step) → route_of t start events l ≡ Some route → (i : ℕ) (hop : Step) (k : LinkSpec) →
    slice_get route i ≡ Some hop → find_link t hop.link ≡ Some k →
    has_fibre fibres (fibre_out k hop.node) ≡ is_cut (after t start events).failed k

pub record CallReportsAreTrue (t : Network) (events : List MeshEvent) (c : CallRec) : Type 0 where
  pub work : (l : Lsp) → c.work ≡ Some l → ReportsAreTrue t events l c.work_reports
  pub back : (l : Lsp) → c.back ≡ Some l → ReportsAreTrue t events l c.back_reports

-- each call at each node
abbrev pub AllReportsAreTrue : Network → List MeshEvent → Type 0
AllReportsAreTrue t events = (n : ℕ) → All (CallReportsAreTrue t events) ((after t start events).nodes n).calls

-- over every topology and every run
abbrev pub EveryReportIsTrueAtRest : Type 0
EveryReportIsTrueAtRest =
    (t : Network) (events : List MeshEvent) → IsTopology t → IsRun t start events → IsQuiet (after t start events) →
    AllReportsAreTrue t events

-- Repairs

-- where no group is failed any more: no call is stuck, and where none is turned nothing of a failure is left, so that all
-- that is promised from a calm state on is promised again
pub record IsRepaired (s : Mesh) : Type 0 where
  pub free : (n : ℕ) → All (λ c. c.state ≢ Stuck) (s.nodes n).calls
  pub calm : ((n : ℕ) → All (λ c. c.state ≢ Turned) (s.nodes n).calls) → Calm s

-- over every topology and every run
abbrev pub EveryRepairedRestIsCalm : Type 0
EveryRepairedRestIsCalm =
    (t : Network) (events : List MeshEvent) → IsTopology t → IsRun t start events → IsQuiet (after t start events) →
    (after t start events).failed ≡ [] → IsRepaired (after t start events)
