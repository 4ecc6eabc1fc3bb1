use Rattle.std.proofs.{Common.{◌∙◌, false, IfErr, List, Result, Err, ap, length, subst, sym}, lemmas.Result.err_from_is_err_and}
use Rattle.ason_base.specs.declared.commands.Event.{Event}
use Rattle.world_core.specs.Replays.{IsFirstDisabled}
use Rattle.trace_text.specs.{Checks.{IsFaultBy, IsLastTable, IsWrongLine}, LinesRead.lines_now, TraceForms.form_now, declared.checking.FoundRun.FoundRun, declared.read.TraceFault.TraceFault}
use Rattle.trace_text.proofs.LinesChecked.{migrated, never_refused}
use Rattle.trace_text.proofs.checking.migrated_run.Goals as goal

pub returns-in_err-rows-clause-wrong : goal.returns-in_err-rows-clause-wrong
returns-in_err-rows-clause-wrong c =
    let p = c.args.plan.now in
    let kept = c.in_ok-migrated.migrated in
    let fault = c.in_err-rows.field-0.0 in
    let told = err_from_is_err_and c.from_residual-in_err-rows.result c.from_residual-in_err-rows.ensures.1 in
    subst (λ (r : Result FoundRun TraceFault). IfErr r (IsFaultBy (IsWrongLine false p (lines_now c.args.read))))
    (sym (told.1 ∙ ap Err told.2))
    (never_refused p (lines_now c.args.read) c.in-Ok.form.entries.items c.in-Ok.form.table.now
    (sym c.of_lines.ensures ∙ ap form_now c.in-Ok.is) c.deref.result.now
    (c.deref.ensures.value ∙ c.in_ok-events.ensures) kept.events kept.left_out c.in_ok-migrated.ensures.kept
    (IsWrongLine false p (lines_now c.args.read)) fault
    (subst (λ (es : List Event). IsFaultBy (IsFirstDisabled p.topology es) fault) c.items.ensures
    c.in_err-rows.ensures.not_run))

pub returns-clause-run : goal.returns-clause-run
returns-clause-run c =
    let p = c.args.plan.now in
    let kept = c.in_ok-migrated.migrated in
    migrated p (lines_now c.args.read) c.in-Ok.form.entries.items c.in-Ok.form.table.now
    (sym c.of_lines.ensures ∙ ap form_now c.in-Ok.is) c.deref.result.now
    (c.deref.ensures.value ∙ c.in_ok-events.ensures) kept.events kept.left_out c.in_ok-migrated.ensures.kept
    (length c.items-2.result.now) c.in_ok-rows.rows (ap length c.items-2.ensures)
    (subst (λ (es : List Event). IsLastTable p es c.in_ok-rows.rows) c.items.ensures c.in_ok-rows.ensures.table)
