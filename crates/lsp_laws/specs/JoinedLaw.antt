-- In every state of every run a call that stands is cross-connected from its ingress to its egress; the backup of a
-- guarded call, and of one that is stuck, is reserved so, and that of a turned call is cross-connected. All this holds
-- of a two-way call on the way back too.
use Rattle.std.specs.Prelude.{◌≡◌, ◌⊎◌, ℕ, Bool, false, List, Option, Some, None, IsTrue, All, is_some, slice_get}
use Rattle.ason_base.specs.{declared.ids.Lsp.Lsp, declared.ids.NodeId.NodeId, declared.steps.Step.Step, declared.network.LinkSpec.LinkSpec, declared.calls.CallState.CallState, declared.calls.CallState.TheVariants.{Asking, Bare, Pairing, Guarded, Turning, Turned, Stuck, Blocked}, declared.calls.Phase.Phase, declared.calls.Phase.TheVariants.{Held, Live}, declared.tables.CallRec.CallRec, declared.tables.Leg.Leg, Network.{Network, find_link, other_end}, Routes.makes_route}
use Rattle.mesh_rules.specs.{declared.events.MeshEvent.MeshEvent, LocalNodes.{fibre_in, fibre_out}, Legs.is_beyond_asked, Machine.{Mesh, start}, Events.{IsRun, after, route_of}, Pairs.is_two_way}
use Rattle.lsp_laws.specs.HopLaw.{leg_at}

-- Over the link of this step the LSP is joined in such phases: its legs at both ends are in them, and the label out of
-- the one is the label in of the other, on the link's fibre. If it is two-way, the back label out of the other is the
-- back label in of the one, on the fibre that leads back over the link; if not, they have none.
pub record HopIsJoined (t : Network) (s : Mesh) (InPhase : Phase → Type 0) (two_way : Bool) (l : Lsp) (hop : Step) :
    Type 0 where
  pub link : LinkSpec
  pub found : find_link t hop.link ≡ Some link
  pub from : Leg
  pub to : Leg
  pub from_there : leg_at s l hop.node ≡ Some from
  pub to_there : leg_at s l (other_end link hop.node) ≡ Some to
  pub from_phase : InPhase from.phase
  pub to_phase : InPhase to.phase
  pub label : ℕ
  pub leaves : from.out_label ≡ Some label
  pub enters : to.in_label ≡ Some label
  pub out_fibre : from.out_fibre ≡ Some (fibre_out link hop.node)
  pub in_fibre : to.in_fibre ≡ Some (fibre_in link (other_end link hop.node))
  pub back : to.back_out ≡ from.back_in
  pub both_ways : is_some from.back_in ≡ two_way

-- The LSP is joined in such phases from its ingress to the node e, over the route that its ingress sent it on.
pub record LspIsJoined (t : Network) (events : List MeshEvent) (InPhase : Phase → Type 0) (two_way : Bool) (e : NodeId)
    (l : Lsp) : Type 0 where
  pub route : List Step
  pub sent : route_of t start events l ≡ Some route
  pub leads : IsTrue (makes_route t l.ingress e route)
  pub hops : (i : ℕ) (hop : Step) → slice_get route i ≡ Some hop →
      HopIsJoined t (after t start events) InPhase two_way l hop

abbrev pub IsJoined : Network → List MeshEvent → (Phase → Type 0) → Bool → NodeId → Option Lsp → Type 0
IsJoined t events InPhase two_way e None = ⊥
IsJoined t events InPhase two_way e (Some l) = LspIsJoined t events InPhase two_way e l

abbrev pub has_way_back : Option Leg → Bool
has_way_back None = false
has_way_back (Some g) = is_two_way g

-- a call with this working LSP is two-way: the leg at its ingress has a back label in
abbrev pub goes_both_ways : Mesh → Option Lsp → Bool
goes_both_ways s None = false
goes_both_ways s (Some l) = has_way_back (leg_at s l l.ingress)

-- the LSP of this call, its working one or its backup, is joined in such phases, both ways where the call is two-way
abbrev pub IsJoinedFor : Network → List MeshEvent → (Phase → Type 0) → CallRec → Option Lsp → Type 0
IsJoinedFor t events InPhase c l = IsJoined t events InPhase (goes_both_ways (after t start events) c.work) c.egress l

abbrev pub IsLive : Phase → Type 0
IsLive phase = phase ≡ Live

abbrev pub IsHeldOrLive : Phase → Type 0
IsHeldOrLive phase = (phase ≡ Held) ⊎ (phase ≡ Live)

-- Held, Armed or Live
abbrev pub HasItsLabel : Phase → Type 0
HasItsLabel phase = IsTrue (is_beyond_asked phase)

-- the working LSP is cross-connected
abbrev pub IsConnected : Network → List MeshEvent → CallRec → Type 0
IsConnected t events c = IsJoinedFor t events IsLive c c.work

-- the labels of the backup are reserved: each leg is Held; where the call went back, a leg may still be Live, until the
-- Path that takes the activation back comes to it
abbrev pub IsReserved : Network → List MeshEvent → CallRec → Type 0
IsReserved t events c = IsJoinedFor t events IsHeldOrLive c c.back

-- the backup is on its way from reserved to cross-connected: its labels are joined, whatever the phases
abbrev pub IsBeingActivated : Network → List MeshEvent → CallRec → Type 0
IsBeingActivated t events c = IsJoinedFor t events HasItsLabel c c.back

-- the backup is cross-connected
abbrev pub IsActivated : Network → List MeshEvent → CallRec → Type 0
IsActivated t events c = IsJoinedFor t events IsLive c c.back

-- which LSPs of a call are joined, in each of its states
abbrev pub CallIsJoined : Network → List MeshEvent → CallRec → CallState → Type 0
CallIsJoined t events c Asking = Unit {0}
CallIsJoined t events c Bare = IsConnected t events c
CallIsJoined t events c Pairing = IsConnected t events c
CallIsJoined t events c Guarded = IsConnected t events c × IsReserved t events c
CallIsJoined t events c Turning = IsConnected t events c × IsBeingActivated t events c
CallIsJoined t events c Turned = IsConnected t events c × IsActivated t events c
CallIsJoined t events c Stuck = IsConnected t events c × IsReserved t events c
CallIsJoined t events c Blocked = Unit {0}

-- at each node, each call that begins there
abbrev pub CallsAreJoined : Network → List MeshEvent → Type 0
CallsAreJoined t events = (n : ℕ) → All (λ c. CallIsJoined t events c c.state) ((after t start events).nodes n).calls

-- over every network and every run
abbrev pub EveryCallIsJoined : Type 0
EveryCallIsJoined = (t : Network) (events : List MeshEvent) → IsRun t start events → CallsAreJoined t events
