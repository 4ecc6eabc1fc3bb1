use Rattle.std.proofs.Common.{rules, ◌≡◌, ◌∙◌}
use Rattle.mgmt_view.specs.{Tables.{last_table, tables_of}, Viewing.told_at}
use Rattle.mgmt_view.proofs.Growing.{ends}
use Rattle.mgmt_view.proofs.publisher.told_with.Goals as goal

pub invariant_of-result : goal.invariant_of-result
invariant_of-result c =
    let shown = c.published-shelf.result.now in
    let copied : c.in_ok-table.table ≡ last_table shown.past = c.in_ok-table.ensures ∙ c.last.ensures in
    let told : told_at c.in_ok-reader.reader.place ≡ tables_of shown.past = search rules in
    (rw copied (rw told (ends shown.past)), (rw told (search rules), tt))
