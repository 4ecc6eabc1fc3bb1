-- A backup goes over the route that its order gives.
use Rattle.std.specs.Prelude.{◌≡◌, ℕ, List, Option, Some, All}
use Rattle.ason_base.specs.{declared.ids.Lsp.Lsp, declared.steps.Step.Step, declared.tables.CallRec.CallRec, Network.Network}
use Rattle.mesh_rules.specs.{declared.events.MeshEvent.MeshEvent, Events.{IsRun, after, route_of}, Machine.start}

-- o: the route of each LSP. The call's record has the backup route of its order (`ordered`).
abbrev pub GoesAsGiven : (Lsp → Option (List Step)) → CallRec → Type 0
GoesAsGiven o c = (l : Lsp) (route : List Step) → c.back ≡ Some l → c.backup ≡ Some route → o l ≡ Some route

-- each call at each node
abbrev pub BackupsGoAsGiven : Network → List MeshEvent → Type 0
BackupsGoAsGiven t events =
    (n : ℕ) →
    All (GoesAsGiven (route_of t start events)) ((after t start events).nodes n).calls

-- over every network and every run
abbrev pub EveryBackupGoesAsGiven : Type 0
EveryBackupGoesAsGiven =
    (t : Network) (events : List MeshEvent) → IsRun t start events → BackupsGoAsGiven t events
