-- How soon a call is restored where the nodes have their parts in order of number: a function of the order and the routes.
use Rattle.std.specs.Prelude.{◌≡◌, ◌≤◌, ℕ, ◌+◌, List, [], ◌∷◌, Option, Some, None, IsTrue, if◌then◌else◌}
use Rattle.ason_base.specs.{Network.{IsTopology, Network, find_link}, declared.commands.Group.Group, declared.ids.CallNo.CallNo, declared.ids.NodeId.NodeId, declared.steps.Step.Step, declared.tables.CallRec.CallRec}
use Rattle.mesh_rules.specs.{declared.events.MeshEvent.MeshEvent, Calls.find_call, Events.{IsRun, after}, Machine.start, Reports.first_node}
use Rattle.mesh_laws.specs.{RestorationLaw.{is_guarded, is_lsp_hit, is_link_cut}, SoonLaw.{IsRestoredAt, IsStruck, route_hops, route_for, struck_at}, Sweeps.{AreSweepsInOrder, late}}

-- of the hops to the node that hears of the nearest cut, those which a Notify goes up from a later node to an earlier one
abbrev pub late_to_cut : Network → List Group → NodeId → List Step → ℕ
late_to_cut t failed e [] = 0
late_to_cut t failed e (hop ∷ route) =
    late (first_node route e).0 hop.node.0
    + (if is_link_cut failed (find_link t hop.link) then 0 else late_to_cut t failed e route)

abbrev pub late_in : Network → List Group → NodeId → Option (List Step) → ℕ
late_in t failed e None = 0
late_in t failed e (Some route) = late_to_cut t failed e route

-- The alarm is handled in the first sweep, and the Notify waits for the next one at each late hop. Each hop of the backup is
-- late in one direction alone: for the Path that activates, or for the Resv.
abbrev pub sweeps_in_order : Network → List MeshEvent → CallRec → ℕ
sweeps_in_order t events c =
    1 + late_in t (after t start events).failed c.egress (route_for t events c.work)
    + route_hops (route_for t events c.back)

-- each call that is guarded as the group fails, and is hit, is restored once so many sweeps in order are over
abbrev pub RestoredInOrder : Network → List MeshEvent → Type 0
RestoredInOrder t events =
    (g : Group) (struck : IsStruck t events g) (k : ℕ) →
    AreSweepsInOrder t k (after t start (struck_at t events g struck)) struck.since → (n : ℕ) (m : CallNo) (c : CallRec) →
    find_call m ((after t start struck.before).nodes n).calls ≡ Some c →
    IsTrue (is_guarded ((after t start struck.before).nodes n) c) →
    IsTrue (is_lsp_hit t (struck_at t events g struck) c.work) →
    sweeps_in_order t (struck_at t events g struck) c ≤ k → IsRestoredAt t events n m

-- over every topology and every run
abbrev pub EveryHitCallIsRestoredInOrder : Type 0
EveryHitCallIsRestoredInOrder =
    (t : Network) (events : List MeshEvent) → IsTopology t → IsRun t start events → RestoredInOrder t events
