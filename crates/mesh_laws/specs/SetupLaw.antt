-- How soon an LSP is answered, and a call decided: within so many sweeps as its route has hops, there and back, whatever
-- else is posted, fails or is released meanwhile.
use Rattle.std.specs.Prelude.{◌≡◌, ℕ, ◌*◌, List, ◌++◌, length, Some}
use Rattle.ason_base.specs.{Network.Network, declared.calls.CallState.TheVariants.{Asking, Pairing}, declared.calls.Phase.TheVariants.Asked, declared.ids.CallNo.CallNo, declared.ids.Lsp.Lsp, declared.steps.Step.Step, declared.tables.CallRec.CallRec}
use Rattle.mesh_rules.specs.{declared.events.MeshEvent.MeshEvent, Calls.find_call, Events.{IsRun, after, route_of}, Legs.find_leg, Machine.{Mesh, start}}
use Rattle.lsp_laws.specs.CallLaw.{phase_of}
use Rattle.mesh_laws.specs.Sweeps.{AreSweeps}

-- the leg where the LSP begins is Asked
abbrev pub IsAskedFor : Mesh → Lsp → Type 0
IsAskedFor s l = phase_of (find_leg l (s.nodes l.ingress.0).legs) ≡ Some Asked

-- The LSP was begun, and since then there were so many sweeps as its route has hops, there and back.
pub record WasBegunLongAgo (t : Network) (events : List MeshEvent) (l : Lsp) : Type 0 where
  pub before : List MeshEvent
  pub since : List MeshEvent
  pub parts : before ++ since ≡ events
  pub route : List Step
  pub sent : route_of t start before l ≡ Some route
  pub sweeps : AreSweeps t (2 * length route) (after t start before) since

-- then its leg isn't Asked where it begins
abbrev pub LspsAreAnswered : Network → List MeshEvent → Type 0
LspsAreAnswered t events = (l : Lsp) → WasBegunLongAgo t events l → IsAskedFor (after t start events) l → ⊥

-- and a call that names it isn't Asking where it is the working LSP, nor Pairing where it is the backup
pub record IsDecided (l : Lsp) (c : CallRec) : Type 0 where
  pub work : c.work ≡ Some l → c.state ≡ Asking → ⊥
  pub back : c.back ≡ Some l → c.state ≡ Pairing → ⊥

abbrev pub CallsAreDecided : Network → List MeshEvent → Type 0
CallsAreDecided t events =
    (l : Lsp) → WasBegunLongAgo t events l → (n : ℕ) (m : CallNo) (c : CallRec) →
    find_call m ((after t start events).nodes n).calls ≡ Some c → IsDecided l c

-- of every run, whatever is posted in it
abbrev pub EveryLspIsAnsweredSoon : Type 0
EveryLspIsAnsweredSoon = (t : Network) (events : List MeshEvent) → IsRun t start events → LspsAreAnswered t events

abbrev pub EveryCallIsDecidedSoon : Type 0
EveryCallIsDecidedSoon = (t : Network) (events : List MeshEvent) → IsRun t start events → CallsAreDecided t events
