use Rattle.std.proofs.Common.{sym, subst, ◌∙◌, ap}
use Rattle.std.specs.List.{position_or_len}
use Rattle.leg_table.specs.LspIndexes.{IndexRises, has_entry, is_entry, is_entry_from}
use Rattle.ason_base.proofs.Inserted.{any-insert}
use Rattle.leg_table.proofs.LspIndex.{entry-rises}
use Rattle.leg_table.proofs.lsp_index.insert.Goals as goal

pub returns-clause-rising : goal.returns-clause-rising
returns-clause-rising c =
    let e = c.args.entry in
    let place = c.place_of-place.ensures.place ∙ ap (position_or_len (is_entry_from e)) c.deref.ensures.value in
    subst IndexRises (sym c.insert_here.ensures.items)
    (entry-rises e c.args.entries.now.items c.place_of-place.result c.requires.rising place c.requires.new)

pub returns-clause-has : goal.returns-clause-has
returns-clause-has c = λ e.
    ap (has_entry e) c.insert_here.ensures.items
    ∙ any-insert (is_entry e) c.args.entries.now.items c.place_of-place.result c.args.entry
