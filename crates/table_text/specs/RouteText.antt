-- The text of the least route between two nodes of a plan, of its backup, and of each node's potential.
use Rattle.std.specs.{Prelude.{ℕ, ◌==◌, List, [], ◌∷◌, ◌++◌, codes, find, map, Option, Some, None, option_map, Result, Ok, Err}, List.flat_map, Fmt.decimal}
use Rattle.ason_base.specs.{declared.ids.NodeId.NodeId, declared.network.NodeSpec.NodeSpec, declared.network.TeRow.TeRow, declared.steps.Step.Step, Network.row_of}
use Rattle.mesh_rules.specs.LeastRoutes.{Trip, least_backup, least_trip}
use Rattle.plan_reader.specs.declared.plan.Plan.{Plan}
use Rattle.table_text.specs.{EndsText.{ends_fault_text, ends_of}, TableText.node_name, declared.ends.EndsFault.EndsFault}

-- the rows of the plan's own links
abbrev pub plan_rows : Plan → List TeRow
plan_rows p = map row_of p.topology.links

-- Potentials

-- the potential of a node: the least cost of a walk from the one node to it, none where no walk leads there
abbrev pub potential_from : Plan → NodeId → NodeId → Option ℕ
potential_from p from n = option_map (λ r. r.cost) (least_trip (plan_rows p) from n)

-- the same of a list of nodes with their potentials
abbrev pub potential_in : List (NodeId × ℕ) → NodeId → Option ℕ
potential_in entries n = option_map (λ e. e.1) (find (λ e. e.0.0 == n.0) entries)

abbrev pub cost_or_dash : Option ℕ → List ℕ
cost_or_dash None = codes "-"
cost_or_dash (Some cost) = decimal cost

-- `potential NAME COST`
abbrev pub potential_text : Plan → NodeId → Option ℕ → List ℕ
potential_text p n cost = codes "potential " ++ node_name p n ++ codes " " ++ cost_or_dash cost ++ codes "\n"

unfoldable pub node_line : Plan → (NodeId → Option ℕ) → NodeSpec → List ℕ
node_line p potential n = potential_text p n.id (potential n.id)

-- a line a node, in order
abbrev pub potentials_text : Plan → (NodeId → Option ℕ) → List ℕ
potentials_text p potential = flat_map (node_line p potential) p.topology.nodes

-- Routes

-- a further link, with a comma in front
abbrev pub more_link : Step → List ℕ
more_link s = codes "," ++ decimal s.link.0

-- the links, joined by commas
abbrev pub links_text : List Step → List ℕ
links_text [] = []
links_text (s ∷ steps) = decimal s.link.0 ++ flat_map more_link steps

-- `WORD COST L,..`
abbrev pub route_line : List ℕ → List Step → ℕ → List ℕ
route_line word steps cost = word ++ codes " " ++ decimal cost ++ codes " " ++ links_text steps ++ codes "\n"

abbrev pub primary_line : List Step → ℕ → List ℕ
primary_line steps cost = route_line (codes "primary") steps cost

abbrev pub backup_line : Option Trip → List ℕ
backup_line None = codes "no backup\n"
backup_line (Some r) = route_line (codes "backup") r.steps r.cost

-- the least route, and its backup: the least route that is risk-disjoint from it and shares no inner node with it
abbrev pub pair_text : Plan → NodeId → NodeId → Option Trip → List ℕ
pair_text p from to None = codes "no primary\n"
pair_text p from to (Some r) =
    primary_line r.steps r.cost ++ backup_line (least_backup (plan_rows p) r.steps from to)

-- the pair, and each node's potential from the one end
abbrev pub routes_text : Plan → NodeId → NodeId → List ℕ
routes_text p from to =
    pair_text p from to (least_trip (plan_rows p) from to) ++ potentials_text p (potential_from p from)

-- Names

abbrev pub told_between : Plan → List ℕ → List ℕ → Result (NodeId × NodeId) EndsFault → List ℕ
told_between p from to (Err fault) = ends_fault_text from to fault
told_between p from to (Ok ends) = routes_text p ends.0 ends.1

-- what is told of the routes between the nodes of these names, or that they aren't two nodes of the plan
abbrev pub route_text : Plan → List ℕ → List ℕ → List ℕ
route_text p from to = told_between p from to (ends_of p from to)

-- What is written of routes that were found

-- the pair, and the potentials of a list
abbrev pub found_text : Plan → List ℕ → List (NodeId × ℕ) → List ℕ
found_text p pair potentials = pair ++ potentials_text p (potential_in potentials)
