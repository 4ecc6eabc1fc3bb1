-- The two nodes of a plan that two names ask for, or what is told where they don't.
use Rattle.std.specs.Prelude.{ℕ, ◌==◌, List, ◌++◌, codes, Option, Some, None, Result, Ok, Err, if◌then◌else◌}
use Rattle.ason_base.specs.declared.ids.NodeId.{NodeId}
use Rattle.plan_reader.specs.{declared.plan.Plan.Plan, PlanTexts.node_named}
use Rattle.table_text.specs.{declared.ends.EndsFault.EndsFault, declared.ends.EndsFault.TheVariants.{NoFrom, NoTo, Same}}

-- the node of this name
abbrev pub plan_node : Plan → List ℕ → Option NodeId
plan_node p name = node_named p.node_names p.topology.nodes name

-- they are two; a name without a node comes first
abbrev pub two_ends : Option NodeId → Option NodeId → Result (NodeId × NodeId) EndsFault
two_ends None end = Err NoFrom
two_ends (Some start) None = Err NoTo
two_ends (Some start) (Some end) = if start.0 == end.0 then Err Same else Ok (start, end)

-- the two nodes of these names
abbrev pub ends_of : Plan → List ℕ → List ℕ → Result (NodeId × NodeId) EndsFault
ends_of p from to = two_ends (plan_node p from) (plan_node p to)

abbrev pub no_node_text : List ℕ → List ℕ
no_node_text name = codes "no node " ++ name ++ codes "\n"

-- the first name that the plan doesn't have, or that both are the same node
abbrev pub ends_fault_text : List ℕ → List ℕ → EndsFault → List ℕ
ends_fault_text from to NoFrom = no_node_text from
ends_fault_text from to NoTo = no_node_text to
ends_fault_text from to Same = codes "same node\n"
