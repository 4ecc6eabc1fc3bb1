use Rattle.std.proofs.Common.{◌++◌, ◌∙◌, ap}
use Rattle.table_text.specs.TableText.{table_text}
use Rattle.ason_main.proofs.Lines.{tells_table}
use Rattle.ason_main.proofs.runner.lines.show_text.Goals as goal

pub returns : goal.returns
returns c =
    tells_table c.args.plan.now c.args.fleet.now c.in_ok-rows.rows c.write_table.new.out.items c.in_ok-rows.ensures
    (c.in_ok-write_table.ensures.ok
    ∙ ap (λ xs. xs ++ table_text c.args.plan.now c.in_ok-rows.rows) c.new-text.ensures.items)
