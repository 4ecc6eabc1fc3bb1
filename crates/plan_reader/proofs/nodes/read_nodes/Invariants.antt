use Rattle.plan_reader.specs.{PlanTables.{views, with_plan_node}, Plans.plan_nodes, declared.faults.PlanEntry.TheVariants.Node}
use Rattle.plan_reader.proofs.Entries.{EntriesGoOn}
use Rattle.plan_reader.proofs.nodes.read_nodes.Given as goal

abbrev pub invariant-reading : goal.invariant-reading
invariant-reading l = EntriesGoOn Node with_plan_node (plan_nodes (views l.values)) l.i l.nodes l.values
