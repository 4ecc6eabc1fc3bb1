use Rattle.std.proofs.Common.{subst}
use Rattle.leg_table.specs.CallLists.{IsEntryOf}
use Rattle.leg_table.proofs.IndexChanges.{nothing-off}
use Rattle.leg_table.proofs.call_list.take_entry.Goals as goal

pub returns-in-None-clause-off : goal.returns-in-None-clause-off
returns-in-None-clause-off c =
    let es = c.args.entries.now.items in
    nothing-off c.args.number es c.requires.rising (subst (IsEntryOf c.args.number es) c.in-None.is c.requires.before)
