use Rattle.std.proofs.Common.{◌∙◌, Bor, List, ℕ, ap, arith, sym}
use Rattle.std.specs.Option.{option_map}
use Rattle.trace_text.specs.LinesRead.{lines_now}
use Rattle.trace_text.proofs.LinesChecked.{other_table, same_table}
use Rattle.trace_text.proofs.checking.checked_run.Goals as goal

pub returns-then-not-branch-clause-wrong : goal.returns-then-not-branch-clause-wrong
returns-then-not-branch-clause-wrong c =
    let length = c.len-count.ensures in
    let same = c.deref.ensures.len in
    other_table c.args.plan.now (lines_now c.args.read) c.in_default.is c.deref.result.now
    (c.deref.ensures.value ∙ c.in_ok-events.ensures) c.in_ok-rows.ensures.run c.in_ok-rows.rows
    c.in_ok-rows.ensures.table c.in-Some-table_of.table.now
    (sym (ap (option_map (λ (b : Bor (List ℕ)). b.now)) c.in-Some-table_of.is) ∙ c.table_of.ensures)
    c.len-count.result (omega (arith, length, same)) (sym c.in_ok-is_table.ensures ∙ c.if-not-branch.true)

pub returns-clause-run : goal.returns-clause-run
returns-clause-run c =
    let length = c.len-count.ensures in
    let same = c.deref.ensures.len in
    same_table c.args.plan.now (lines_now c.args.read) c.in_default.is c.deref.result.now
    (c.deref.ensures.value ∙ c.in_ok-events.ensures) c.in_ok-rows.ensures.run c.in_ok-rows.rows
    c.in_ok-rows.ensures.table c.in-Some-table_of.table.now
    (sym (ap (option_map (λ (b : Bor (List ℕ)). b.now)) c.in-Some-table_of.is) ∙ c.table_of.ensures)
    c.len-count.result (omega (arith, length, same)) (sym c.in_ok-is_table.ensures ∙ c.if-not-branch.false)
