use Rattle.std.proofs.Common.{sym, subst}
use Rattle.leg_table.specs.LspIndexes.{IndexRises, IsTakenOff}
use Rattle.leg_table.proofs.IndexChanges.{just-there, taken-off}
use Rattle.leg_table.proofs.lsp_index.remove.Goals as goal

pub take-requires-clause-there : goal.take-requires-clause-there
take-requires-clause-there c = just-there c.args.entry c.args.entries.now.items c.requires.just

pub returns-clause-off : goal.returns-clause-off
returns-clause-off c =
    let e = c.args.entry in
    let es = c.args.entries.now.items in
    subst (IsTakenOff e.call es) (sym c.take.ensures.left)
    (taken-off e es c.requires.just (subst IndexRises c.take.ensures.left c.take.ensures.rising))
