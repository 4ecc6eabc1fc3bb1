-- How soon a call is restored: after a failure of one group in a calm and quiet network, within so many sweeps as its
-- routes are long.
use Rattle.std.specs.{Prelude.{◌≡◌, ◌≤◌, ℕ, suc, ◌+◌, ◌*◌, List, [], ◌∷◌, ◌++◌, length, Option, Some, None, IsTrue, if◌then◌else◌}, List.AllByRecursion}
use Rattle.ason_base.specs.{Network.{IsTopology, Network, find_link}, declared.commands.Command.TheVariants.Fail, declared.commands.Group.Group, declared.ids.CallNo.CallNo, declared.ids.Lsp.Lsp, declared.steps.Step.Step, declared.tables.CallRec.CallRec}
use Rattle.mesh_rules.specs.{declared.events.MeshEvent.MeshEvent, declared.events.MeshEvent.TheVariants.{Take, Desk, Tick, Learn, Post}, Calls.find_call, Events.{IsRun, after, route_of}, Machine.start, Quiet.IsQuiet}
use Rattle.mesh_laws.specs.{AloneLaw.Calm, RestorationLaw.{IsRestored, is_guarded, is_lsp_hit, is_link_cut}, Sweeps.AreSweeps}

-- The premise

abbrev pub PostsNothing : MeshEvent → Type 0
PostsNothing (Take d u) = Unit {0}
PostsNothing (Desk n) = Unit {0}
PostsNothing (Tick n) = Unit {0}
PostsNothing (Learn n k) = Unit {0}
PostsNothing (Post c) = ⊥

-- The group failed at a calm and quiet moment of the run, and nothing was posted since.
pub record IsStruck (t : Network) (events : List MeshEvent) (g : Group) : Type 0 where
  pub before : List MeshEvent
  pub since : List MeshEvent
  pub parts : before ++ Post (Fail g) ∷ since ≡ events
  pub calm : Calm (after t start before)
  pub quiet : IsQuiet (after t start before)
  pub only : AllByRecursion PostsNothing since

-- as the group fails
abbrev pub struck_at : (t : Network) (events : List MeshEvent) (g : Group) → IsStruck t events g → List MeshEvent
struck_at t events g struck = struck.before ++ Post (Fail g) ∷ []

-- How far it is

-- the hops from the ingress to the node that hears of the nearest cut: all of them where none is cut
abbrev pub hops_to_cut : Network → List Group → List Step → ℕ
hops_to_cut t failed [] = 0
hops_to_cut t failed (hop ∷ route) =
    suc (if is_link_cut failed (find_link t hop.link) then 0 else hops_to_cut t failed route)

abbrev pub cut_in : Network → List Group → Option (List Step) → ℕ
cut_in t failed None = 0
cut_in t failed (Some route) = hops_to_cut t failed route

abbrev pub route_hops : Option (List Step) → ℕ
route_hops None = 0
route_hops (Some route) = length route

abbrev pub route_for : Network → List MeshEvent → Option Lsp → Option (List Step)
route_for t events None = None
route_for t events (Some l) = route_of t start events l

-- The alarm is handled in the first sweep; the Notify goes back from the nearest cut to the ingress, a hop a sweep; the
-- Path that activates goes down the backup, and the Resv comes back up.
abbrev pub sweeps_for : Network → List MeshEvent → CallRec → ℕ
sweeps_for t events c =
    1 + cut_in t (after t start events).failed (route_for t events c.work) + 2 * route_hops (route_for t events c.back)

-- The law

-- the call of this number at this node
pub record IsRestoredAt (t : Network) (events : List MeshEvent) (n : ℕ) (m : CallNo) : Type 0 where
  pub call : CallRec
  pub found : find_call m ((after t start events).nodes n).calls ≡ Some call
  pub restored : IsRestored t events call

-- each call that is guarded as the group fails, and is hit, is restored once so many sweeps are over
abbrev pub RestoredSoon : Network → List MeshEvent → Type 0
RestoredSoon t events =
    (g : Group) (struck : IsStruck t events g) (k : ℕ) →
    AreSweeps t k (after t start (struck_at t events g struck)) struck.since → (n : ℕ) (m : CallNo) (c : CallRec) →
    find_call m ((after t start struck.before).nodes n).calls ≡ Some c →
    IsTrue (is_guarded ((after t start struck.before).nodes n) c) →
    IsTrue (is_lsp_hit t (struck_at t events g struck) c.work) →
    sweeps_for t (struck_at t events g struck) c ≤ k → IsRestoredAt t events n m

-- over every topology and every run
abbrev pub EveryHitCallIsRestoredSoon : Type 0
EveryHitCallIsRestoredSoon =
    (t : Network) (events : List MeshEvent) → IsTopology t → IsRun t start events → RestoredSoon t events
