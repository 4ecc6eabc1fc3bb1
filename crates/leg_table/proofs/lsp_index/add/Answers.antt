use Rattle.std.proofs.{}
use Rattle.leg_table.proofs.IndexChanges.{set-new}
use Rattle.leg_table.proofs.lsp_index.add.Goals as goal

pub insert-requires-clause-new : goal.insert-requires-clause-new
insert-requires-clause-new c = c.requires.none c.args.entry.lsp

pub returns-clause-set : goal.returns-clause-set
returns-clause-set c =
    set-new c.args.entry c.args.entries.now.items _ c.requires.none c.insert.ensures.rising c.insert.ensures.has
