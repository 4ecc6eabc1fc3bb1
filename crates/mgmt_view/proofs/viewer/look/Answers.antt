use Rattle.std.proofs.Common.{rules, ◌≡◌, ◌∙◌}
use Rattle.left_right.specs.Sides.{view}
use Rattle.mgmt_view.specs.Tables.{last_table, tables_of}
use Rattle.mgmt_view.proofs.Growing.{ends, stays}
use Rattle.mgmt_view.proofs.viewer.look.Goals as goal

pub enter_as-requires : goal.enter_as-requires
enter_as-requires c x = stays _ _ x

pub returns-in-Ok-table-clause-last : goal.returns-in-Ok-table-clause-last
returns-in-Ok-table-clause-last c =
    let shown = c.get-shelf.result.now.past in
    let copied : c.in-Ok-table.table ≡ last_table shown = c.in-Ok-table.ensures ∙ c.last.ensures in
    let seen : (view c.leave-reader.result.place).seen ≡ tables_of shown = search rules in
    rw copied (rw seen (ends shown))
