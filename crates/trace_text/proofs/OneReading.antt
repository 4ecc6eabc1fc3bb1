-- Bytes are read as one thing alone.
use Rattle.std.proofs.Common.{◌≡◌, ◌∙◌, ◌⊎◌, ℕ, List, Option, Some, None, Result, Ok, Err, inl, inr, refl, ap, sym, subst}
use Rattle.ason_base.specs.declared.commands.Entry.{Entry}
use Rattle.plan_reader.specs.{declared.faults.PlanFault.PlanFault, declared.plan.Plan.Plan}
use Rattle.plan_reader.proofs.Agree.{plans_agree}
use Rattle.trace_text.specs.{TraceForms.{TraceHead, form_of, head_of, is_version_2}, TraceRead.{EveryReadingIsOne, IsPlanIn, ReadsAs}, declared.read.Trace.Trace, declared.read.TraceFault.TraceFault, declared.read.TraceFault.TheVariants.{NotRun, Plan as RefusedPlan, OutOfMemory}}

-- What follows from a head, a plan or its fault, and a form

abbrev of_form : TraceHead → Plan → Result (List Entry × List ℕ) ℕ → Result Trace TraceFault
of_form h p (Ok (es, table)) =
    Ok (record { version = h.version; plan_bytes = h.plan; plan = p; entries = es; table = table })
of_form h p (Err i) = Err (NotRun i)

abbrev of_plan : TraceHead → Result Plan PlanFault → Result Trace TraceFault
of_plan h (Ok p) = of_form h p (form_of p h.rest)
of_plan h (Err fault) = Err (RefusedPlan fault)

abbrev Follows : Option TraceHead → Result Trace TraceFault → Type 0
Follows None r = r ≡ Err (NotRun 0)
Follows (Some h) r = (plan : Result Plan PlanFault) × IsPlanIn h.version h.plan plan × (r ≡ of_plan h plan)

follows : (bytes : List ℕ) (r : Result Trace TraceFault) → ReadsAs bytes r →
    (r ≡ Err OutOfMemory) ⊎ Follows (head_of bytes) r
follows bytes (Ok t) is =
    let h : TraceHead = record { version = t.version; plan = t.plan_bytes; rest = is.rest } in
    inr (subst (λ o. Follows o (Ok t)) (sym is.head) (Ok t.plan, is.plan, sym (ap (of_form h t.plan) is.form)))
follows bytes (Err (NotRun i)) (inl none) =
    inr (subst (λ o. Follows o (Err (NotRun i))) (sym none.0) (ap (λ (n : ℕ). Err (NotRun n)) none.1))
follows bytes (Err (NotRun i)) (inr is) =
    inr (subst (λ o. Follows o (Err (NotRun i))) (sym is.begun)
    (Ok is.plan, is.spelled, sym (ap (of_form is.head is.plan) is.form)))
follows bytes (Err (RefusedPlan fault)) is =
    inr (subst (λ o. Follows o (Err (RefusedPlan fault))) (sym is.begun) (Err fault, is.spelled, refl))
follows bytes (Err OutOfMemory) is = inl refl

same : (o : Option TraceHead) (r s : Result Trace TraceFault) → Follows o r → Follows o s → r ≡ s
same None r s first second = first ∙ sym second
same (Some h) r s (p, spelled, first) (q, also, second) =
    first ∙ (ap (of_plan h) (plans_agree (is_version_2 h.version) h.plan p q spelled also) ∙ sym second)

pub one_reading : EveryReadingIsOne
one_reading bytes r s first second = either (follows bytes r first) (follows bytes s second)
  where
    either : (r ≡ Err OutOfMemory) ⊎ Follows (head_of bytes) r → (s ≡ Err OutOfMemory) ⊎ Follows (head_of bytes) s →
        (r ≡ Err OutOfMemory) ⊎ ((s ≡ Err OutOfMemory) ⊎ (r ≡ s))
    either (inl memory) other = inl memory
    either (inr this) (inl memory) = inr (inl memory)
    either (inr this) (inr that) = inr (inr (same (head_of bytes) r s this that))
