use Rattle.plan_reader.specs.{PlanTables.{views, with_plan_link}, Plans.plan_links, declared.faults.PlanEntry.TheVariants.Link}
use Rattle.plan_reader.proofs.Entries.{EntriesGoOn}
use Rattle.plan_reader.proofs.links.read_links.Given as goal

abbrev pub invariant-reading : goal.invariant-reading
invariant-reading l = EntriesGoOn Link (with_plan_link l.known) (plan_links l.known (views l.values)) l.i l.links.items l.values
