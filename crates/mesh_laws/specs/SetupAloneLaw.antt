-- A setup alone: what decides whether its call stands.
use Rattle.std.specs.{Prelude.{◌≡◌, ◌≤◌, ◌<◌, ℕ, suc, false, List, [], ◌∷◌, ◌++◌, length, slice_get, Some, None}, List.AllByRecursion}
use Rattle.mesh_rules.specs.{declared.limits.TheConstants.{LAST_NUMBER, MOST_LEGS}, declared.events.MeshEvent.MeshEvent, declared.events.MeshEvent.TheVariants.Post, Calls.find_call, Events.{IsRun, after}, LocalNodes.{converts, fibre_in}, Machine.{Mesh, start}, Quiet.IsQuiet}
use Rattle.ason_base.specs.{Network.{IsTopology, Network, find_link, find_node, other_end}, declared.calls.CallState.TheVariants.{Bare, Blocked}, declared.calls.Role.TheVariants.Work, declared.commands.Command.TheVariants.Setup, declared.ids.CallNo.CallNo, declared.ids.NodeId.NodeId, declared.network.LinkSpec.LinkSpec, declared.steps.Step.Step, declared.tables.CallRec.CallRec}
use Rattle.mesh_laws.specs.{CauseLaw.KeepsOff, RestorationLaw.is_route_cut, RetryLaw.IsLeftAlone}

-- Wavelengths

-- over the link, which comes to the node d, a working LSP may have the wavelength x: it is one of the link's, and no leg
-- of d keeps it off
pub record MayHave (s : Mesh) (link : LinkSpec) (d : NodeId) (x : ℕ) : Type 0 where
  pub low : 1 ≤ x
  pub high : x ≤ link.labels
  pub free : KeepsOff (s.nodes d.0).legs Work [] (fibre_in link d) x → ⊥

-- by place of the route a wavelength that a working LSP may have over the link there; where the node between two links
-- doesn't convert, one for both
pub record AreWavelengths (t : Network) (s : Mesh) (route : List Step) (x : ℕ → ℕ) : Type 0 where
  pub each : (i : ℕ) (hop : Step) (link : LinkSpec) → slice_get route i ≡ Some hop →
      find_link t hop.link ≡ Some link → MayHave s link (other_end link hop.node) (x i)
  pub one : (i : ℕ) (hop next : Step) → slice_get route i ≡ Some hop → slice_get route (suc i) ≡ Some next →
      converts (find_node t next.node) ≡ false → x (suc i) ≡ x i

-- each stretch between converting nodes has a wavelength that is free on all its links
abbrev pub HasWavelengths : Network → Mesh → List Step → Type 0
HasWavelengths t s route = (x : ℕ → ℕ) × AreWavelengths t s route x

-- The premise

-- At a quiet moment of the run a one-way call of a new number was ordered, unprotected, from n over a route whose links
-- are all up; n has numbers left, and each node has room for a leg. All was left alone since.
pub record IsSetUpAlone (t : Network) (events : List MeshEvent) (k : CallNo) (n to : NodeId) (route : List Step) :
    Type 0 where
  pub before : List MeshEvent
  pub since : List MeshEvent
  pub parts : before ++ Post (Setup k n to false false (Some route) None) ∷ since ≡ events
  pub quiet : IsQuiet (after t start before)
  pub new : find_call k ((after t start before).nodes n.0).calls ≡ None
  pub up : is_route_cut t (after t start before).failed (Some route) ≡ false
  pub lsp : ((after t start before).nodes n.0).lsp ≤ LAST_NUMBER
  pub tunnel : ((after t start before).nodes n.0).tunnel ≤ LAST_NUMBER
  pub room : (m : ℕ) → length ((after t start before).nodes m).legs < MOST_LEGS
  pub only : AllByRecursion (IsLeftAlone t (after t start before)) since

-- What becomes of it

-- s is the quiet state before the order
pub data SetupEnds (t : Network) (s s' : Mesh) (k : CallNo) (n : NodeId) (route : List Step) : Type 0 where
  Stands : (d : CallRec) → find_call k (s'.nodes n.0).calls ≡ Some d → d.state ≡ Bare →
      HasWavelengths t s route → SetupEnds t s s' k n route
  IsBlocked : (d : CallRec) → find_call k (s'.nodes n.0).calls ≡ Some d → d.state ≡ Blocked →
      (HasWavelengths t s route → ⊥) → SetupEnds t s s' k n route

-- once nothing is under way again
abbrev pub SetupsEnd : Network → List MeshEvent → Type 0
SetupsEnd t events =
    (k : CallNo) (n to : NodeId) (route : List Step) (alone : IsSetUpAlone t events k n to route) →
    IsQuiet (after t start events) → SetupEnds t (after t start alone.before) (after t start events) k n route

-- over every topology and every run
abbrev pub EverySetupIsDecided : Type 0
EverySetupIsDecided =
    (t : Network) (events : List MeshEvent) → IsTopology t → IsRun t start events → SetupsEnd t events
