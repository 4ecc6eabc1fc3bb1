use Rattle.std.proofs.{Common.{◌≡◌, ◌∙◌, List, ℕ, Some, Ok, Err, Result, ap, inr, sym, subst}, lemmas.Result.err_from_is_err_and}
use Rattle.std.specs.Option.{option_map}
use Rattle.plan_reader.specs.declared.plan.Plan.{Plan}
use Rattle.trace_text.specs.{Checks.IsFaultBy, TraceForms.{TraceHead, form_of, head_now, head_of}, TraceRead.{IsPlanIn, ReadsAs}, declared.read.Trace.Trace, declared.read.TraceFault.TraceFault, declared.read.TraceFault.TheVariants.{NotRun, Plan as RefusedPlan, OutOfMemory}}
use Rattle.trace_text.proofs.read.read_trace.Goals as goal

-- behind the plan this is wrong
wrong_behind : (bytes : List ℕ) (h : TraceHead) (p : Plan) → head_of bytes ≡ Some h →
    IsPlanIn h.version h.plan (Ok p) → (e : TraceFault) → IsFaultBy (λ i. form_of p h.rest ≡ Err i) e →
    ReadsAs bytes (Err e)
wrong_behind bytes h p begun spelled (NotRun i) form =
    inr (record { head = h; plan = p; begun = begun; spelled = spelled; form = form })
wrong_behind bytes h p begun spelled (RefusedPlan fault) form = absurd form
wrong_behind bytes h p begun spelled OutOfMemory form = tt

pub returns-in_err-behind-clause-reads : goal.returns-in_err-behind-clause-reads
returns-in_err-behind-clause-reads c =
    let told =
    err_from_is_err_and c.from_residual-in_err-behind.result c.from_residual-in_err-behind.ensures.1 in
    subst (λ (r : Result Trace TraceFault). ReadsAs c.args.bytes.now r) (sym (told.1 ∙ ap Err told.2))
    (wrong_behind c.args.bytes.now (head_now c.in-Some.head) c.in_ok-plan.plan
    (sym c.head_of.ensures ∙ ap (option_map head_now) c.in-Some.is) c.in_ok-plan.ensures.plan
    c.in_err-behind.field-0.0 c.in_err-behind.ensures.wrong)
