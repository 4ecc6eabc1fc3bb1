use Rattle.std.proofs.Common.{◌++◌, ◌∙◌, ap, sym}
use Rattle.table_text.specs.TableText.{unsettled_text}
use Rattle.ason_main.proofs.Lines.{tells_counts, tells_nothing}
use Rattle.ason_main.proofs.runner.lines.unsettled_text.Goals as goal

pub returns-then-quiet : goal.returns-then-quiet
returns-then-quiet c =
    tells_nothing c.args.fleet.now c.new-text.result.items c.new-text.ensures.items c.every_law.ensures.quiet
    (λ t lines r stands. sym (c.quiet.ensures t lines r stands) ∙ c.if-quiet.true)

pub returns : goal.returns
returns c =
    let waits = c.pending-waits.result in
    tells_counts c.args.fleet.now c.write_unsettled.new.out.items waits.desk waits.hop waits.flood
    (c.in_ok-write_unsettled.ensures.ok
    ∙ ap (λ xs. xs ++ unsettled_text waits.desk waits.hop waits.flood) c.new-text.ensures.items)
    c.every_law.ensures.quiet (λ t lines r stands. sym (c.quiet.ensures t lines r stands) ∙ c.if-quiet.false)
    c.pending-waits.ensures.desk c.pending-waits.ensures.hop c.pending-waits.ensures.flood
