use Rattle.std.proofs.Common.{sym, ◌∙◌}
use Rattle.leg_table.proofs.IndexChanges.{set-same}
use Rattle.leg_table.proofs.lsp_index.replace.Goals as goal

pub returns-else-not-is_same-clause-set : goal.returns-else-not-is_same-clause-set
returns-else-not-is_same-clause-set c =
    set-same c.args.before.call c.args.before.lsp c.args.lsp c.args.entries.now.items c.requires.rising c.requires.just
    (sym c.is_same.ensures ∙ c.if-not-is_same.false)
