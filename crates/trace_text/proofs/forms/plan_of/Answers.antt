use Rattle.std.proofs.Common.{ℕ, Bool, subst, sym}
use Rattle.plan_reader.specs.Plans.{Answers}
use Rattle.trace_text.specs.TraceForms.{is_version_2}
use Rattle.trace_text.proofs.Versions.{other_version}
use Rattle.trace_text.proofs.forms.plan_of.Goals as goal

pub returns-then-version-eq2-clause-plan : goal.returns-then-version-eq2-clause-plan
returns-then-version-eq2-clause-plan c =
    subst (λ (v : ℕ). Answers (is_version_2 v) c.args.bytes.now c.read_plan.result) (sym c.if-version-eq2.true)
    c.read_plan.ensures.plan

pub returns-else-version-eq2-clause-plan : goal.returns-else-version-eq2-clause-plan
returns-else-version-eq2-clause-plan c =
    subst (λ (b : Bool). Answers b c.args.bytes.now c.read_plan_1.result)
    (sym (other_version c.args.version c.if-version-eq2.false)) c.read_plan_1.ensures.plan
