-- The setups of a script: what each says or its first fault.
use Rattle.std.specs.Prelude.{ℕ, ◌==◌, ◌||◌, nat_le, Bool, true, not, List, [], ◌∷◌, length, Option, Some, None, Result, Ok, Err, option_map, unwrap_or, if◌then◌else◌}
use Rattle.ason_base.specs.{Network.{Network, find_link}, declared.ids.NodeId.NodeId, declared.steps.Step.Step, declared.commands.Command.Command, declared.commands.Command.TheVariants.Setup, Routes.{across, is_beside, makes_route}, declared.limits.TheConstants.MOST_CALLS}
use Rattle.plan_reader.specs.{declared.faults.PlanKind.PlanKind, declared.forms.SetupForm.SetupForm, declared.setups.RouteIds.RouteIds, declared.setups.Routes.Routes, Entries.and_then, Names.{is_name, has_name}, PlanCalls.CallList, PlanTexts.{link_ids, node_named, word_at}}
use Rattle.plan_reader.specs.declared.faults.PlanKind.TheVariants as kinds

-- Link ids

abbrev pub in_reach : Option (List ℕ) → Result (Option (List ℕ)) PlanKind
in_reach None = Err kinds.Range
in_reach (Some ids) = Ok (Some ids)

-- the link ids that the word at this place writes, where a place is given
abbrev pub ids_at : List (List ℕ) → Option ℕ → Result (Option (List ℕ)) PlanKind
ids_at ws None = Ok None
ids_at ws (Some k) = in_reach (link_ids (word_at ws k))

-- the link ids of a setup's routes; where one is out of reach, that is the first fault
abbrev pub route_ids : List (List ℕ) → SetupForm → Result RouteIds PlanKind
route_ids ws form =
    and_then (ids_at ws form.via)
    (λ via. and_then (ids_at ws form.backup) (λ backup. Ok (record { via = via; backup = backup })))

-- Routes

-- where a link leads from a node; the same node where it doesn't lead from there
abbrev pub next_node : Network → NodeId → ℕ → NodeId
next_node t n k = unwrap_or (across (find_link t (record { 0 = k })) n) n

-- the steps over these links from a node
abbrev pub steps_over : Network → NodeId → List ℕ → List Step
steps_over t n [] = []
steps_over t n (k ∷ ks) = record { node = n; link = record { 0 = k } } ∷ steps_over t (next_node t n k) ks

-- the steps over these links from a node, where links are given
abbrev pub steps_given : Network → NodeId → Option (List ℕ) → Option (List Step)
steps_given t from ids = option_map (λ ks. steps_over t from ks) ids

-- a route that is given leads from one node to the other with no node twice
abbrev pub leads : Network → NodeId → NodeId → Option (List Step) → Bool
leads t from to None = true
leads t from to (Some route) = makes_route t from to route

-- a backup route that is given stands beside the working route
abbrev pub is_backed : Network → NodeId → NodeId → Option (List Step) → Option (List Step) → Bool
is_backed t from to via None = true
is_backed t from to via (Some backup) = is_beside t from to via backup

abbrev pub good_routes :
    Network → NodeId → NodeId → Option (List Step) → Option (List Step) → Result Routes PlanKind
good_routes t from to via backup =
    if not (leads t from to via) || not (leads t from to backup) then Err kinds.Route
    else if not (is_backed t from to via backup) then Err kinds.Backup
    else Ok (record { via = via; backup = backup })

-- the routes of a setup over these links, or their first fault
abbrev pub routes_over : Network → NodeId → NodeId → RouteIds → Result Routes PlanKind
routes_over t from to ids = good_routes t from to (steps_given t from ids.via) (steps_given t from ids.backup)

-- Setups

-- the node that a word names; the names and the network's nodes stand in the same order
abbrev pub node_at : Network → List (List ℕ) → List (List ℕ) → ℕ → Option NodeId
node_at t names ws k = node_named names t.nodes (word_at ws k)

-- the setup of the next call
abbrev pub next_setup : CallList → NodeId → NodeId → SetupForm → Routes → Command
next_setup calls from to form routes =
    Setup (record { 0 = length calls.names }) from to form.protected form.both routes.via routes.backup

-- the routes of a new call of this name, or the first fault of the call and of these
abbrev pub new_routes : Network → CallList → List ℕ → RouteIds → NodeId → NodeId → Result Routes PlanKind
new_routes t calls name ids from to =
    if from.0 == to.0 then Err kinds.Same
    else if has_name calls.names name then Err kinds.Call
    else if nat_le MOST_CALLS (length calls.names) then Err kinds.Count
    else routes_over t from to ids

abbrev pub setup_over :
    Network → CallList → List (List ℕ) → SetupForm → RouteIds → NodeId → NodeId → Result Command PlanKind
setup_over t calls ws form ids from to =
    and_then (new_routes t calls (word_at ws 1) ids from to) (λ routes. Ok (next_setup calls from to form routes))

abbrev pub setup_between :
    Network → CallList → List (List ℕ) → SetupForm → RouteIds → Option NodeId → Option NodeId →
    Result Command PlanKind
setup_between t calls ws form ids None to = Err kinds.Node
setup_between t calls ws form ids (Some from) None = Err kinds.Node
setup_between t calls ws form ids (Some from) (Some to) = setup_over t calls ws form ids from to

abbrev pub setup_with :
    Network → List (List ℕ) → CallList → List (List ℕ) → SetupForm → RouteIds → Result Command PlanKind
setup_with t names calls ws form ids =
    if not (is_name (word_at ws 1)) then Err kinds.Name
    else setup_between t calls ws form ids (node_at t names ws 2) (node_at t names ws 3)

-- a setup of this form, or its first fault
abbrev pub setup_of : Network → List (List ℕ) → CallList → List (List ℕ) → SetupForm → Result Command PlanKind
setup_of t names calls ws form =
    and_then (route_ids ws form) (λ ids. setup_with t names calls ws form ids)
