use Rattle.plan_reader.specs.{PlanScript.AddsLine, PlanTables.views, Plans.IsScriptOf, declared.faults.PlanEntry.TheVariants.Script}
use Rattle.plan_reader.proofs.Entries.{EntriesLeadOn}
use Rattle.plan_reader.proofs.script.read_script.Given as goal

abbrev pub invariant-reading : goal.invariant-reading
invariant-reading l =
    EntriesLeadOn Script (AddsLine l.two_way l.t l.names) (IsScriptOf l.two_way l.t l.names (views l.values)) l.i
    l.script l.values
