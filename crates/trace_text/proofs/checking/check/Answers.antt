use Rattle.std.proofs.{Common.{◌∙◌, Err, Result, ap, sym, subst}, lemmas.Result.err_from_is_err_and}
use Rattle.std.specs.Option.{option_map}
use Rattle.trace_text.specs.{Checks.ChecksAs, TraceForms.head_now, declared.checking.Checked.Checked, declared.read.TraceFault.TraceFault}
use Rattle.trace_text.proofs.BytesChecked.{found_checked, found_wrong}
use Rattle.trace_text.proofs.checking.check.Goals as goal

pub returns-in_err-found-clause-checks : goal.returns-in_err-found-clause-checks
returns-in_err-found-clause-checks c =
    let told =
    err_from_is_err_and c.from_residual-in_err-found.result c.from_residual-in_err-found.ensures.1 in
    subst (λ (r : Result Checked TraceFault). ChecksAs c.args.bytes.now r) (sym (told.1 ∙ ap Err told.2))
    (found_wrong c.args.bytes.now (head_now c.in-Some.head) c.in_ok-plan.plan
    (sym c.head_of.ensures ∙ ap (option_map head_now) c.in-Some.is) c.in_ok-plan.ensures.plan
    c.in_err-found.field-0.0 c.in_err-found.ensures.wrong)

pub returns-clause-checks : goal.returns-clause-checks
returns-clause-checks c =
    found_checked c.args.bytes.now (head_now c.in-Some.head) c.in_ok-plan.plan c.in_ok-found.found
    (sym c.head_of.ensures ∙ ap (option_map head_now) c.in-Some.is) c.in_ok-plan.ensures.plan
    c.in_ok-found.ensures.run
