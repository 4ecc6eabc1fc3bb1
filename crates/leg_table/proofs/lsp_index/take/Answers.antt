use Rattle.std.proofs.Common.{sym}
use Rattle.leg_table.specs.LspIndexes.{is_entry}
use Rattle.leg_table.proofs.KeyedPlaces.{not-found}
use Rattle.leg_table.proofs.lsp_index.take.Goals as goal

pub unreachable-requires : goal.unreachable-requires
unreachable-requires c =
    not-found (is_entry c.args.entry) c.args.entries.now.items (sym c.in-None.ensures.item) c.requires.there
