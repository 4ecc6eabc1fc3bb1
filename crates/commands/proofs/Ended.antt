-- How `check`, `decode` and a question about two nodes end on bytes that were judged.
use Rattle.std.proofs.Common.{◌≡◌, ℕ, List, inl, inr}
use Rattle.std.specs.Prelude.{◌⊎◌, Result, Ok, Err}
use Rattle.plan_reader.specs.{Plans.PlanOf, declared.faults.PlanFault.PlanFault, declared.plan.Plan.Plan}
use Rattle.plan_reader.proofs.Agree.{no_plan}
use Rattle.trace_text.specs.{Checks.{IsChecked, IsNotRun}, Complete.EveryCheckIsOne, TraceRead.IsRefused as IsRefusedTrace, declared.checking.Checked.Checked, declared.read.TraceFault.TraceFault}
use Rattle.commands.specs.{declared.status.Status.Status, declared.tasks.Question.Question, Replies.{Done, EventLimit, NotRun, PlanRefused, ReadFault, Reply, TooLong, Unfinished, Usage, WriteFault, EndsCheck, IsAskReply, IsCheckReply, IsDecodeReply, IsDoneOrOutOfMemory, status_of}}

-- a reply to `check`: bytes have one answer, so two others exclude each other
are_apart : (r s : Result Checked TraceFault) → (r ≡ Err TraceFault.OutOfMemory → ⊥) →
    (s ≡ Err TraceFault.OutOfMemory → ⊥) → (r ≡ s → ⊥) →
    (r ≡ Err TraceFault.OutOfMemory) ⊎ ((s ≡ Err TraceFault.OutOfMemory) ⊎ (r ≡ s)) → ⊥
are_apart r s first second differ (inl e) = first e
are_apart r s first second differ (inr (inl e)) = second e
are_apart r s first second differ (inr (inr e)) = differ e

run_apart : EveryCheckIsOne → (bs : List ℕ) (c : Checked) (i : ℕ) → IsChecked bs c → IsNotRun bs i → ⊥
run_apart law bs c i is not =
    are_apart (Ok c) (Err (TraceFault.NotRun i)) (λ e. absurd (cc (e))) (λ e. absurd (cc (e))) (λ e. absurd (cc (e)))
    (law bs (Ok c) (Err (TraceFault.NotRun i)) is not)

run_refused : EveryCheckIsOne → (bs : List ℕ) (c : Checked) (f : PlanFault) → IsChecked bs c → IsRefusedTrace bs f → ⊥
run_refused law bs c f is refused =
    are_apart (Ok c) (Err (TraceFault.Plan f)) (λ e. absurd (cc (e))) (λ e. absurd (cc (e))) (λ e. absurd (cc (e)))
    (law bs (Ok c) (Err (TraceFault.Plan f)) is refused)

not_refused : EveryCheckIsOne → (bs : List ℕ) (i : ℕ) (f : PlanFault) → IsNotRun bs i → IsRefusedTrace bs f → ⊥
not_refused law bs i f not refused =
    are_apart (Err (TraceFault.NotRun i)) (Err (TraceFault.Plan f)) (λ e. absurd (cc (e))) (λ e. absurd (cc (e)))
    (λ e. absurd (cc (e))) (law bs (Err (TraceFault.NotRun i)) (Err (TraceFault.Plan f)) not refused)

-- how `check` ends
pub checked_end : EveryCheckIsOne → (bs : List ℕ) (r : Reply) (s : Status) → IsCheckReply bs r → s ≡ status_of r →
    EndsCheck bs s
checked_end law bs (Done text) s holds is =
    record { done = λ c of. inl is; not_run = λ i not. absurd (run_apart law bs holds.0 i holds.1 not) }
checked_end law bs (NotRun text) s holds is =
    record { done = λ c of. absurd (run_apart law bs c holds.0 of holds.1); not_run = λ i not. inl is }
checked_end law bs (PlanRefused text) s holds is = record {
  done = λ c of. absurd (run_refused law bs c holds.0 of holds.1);
  not_run = λ i not. absurd (not_refused law bs i holds.0 not holds.1);
}
checked_end law bs (EventLimit text) s holds is = absurd holds
checked_end law bs (Unfinished text) s holds is = record { done = λ c of. inr is; not_run = λ i not. inr is }
checked_end law bs Usage s holds is = absurd holds
checked_end law bs ReadFault s holds is = absurd holds
checked_end law bs TooLong s holds is = absurd holds
checked_end law bs (WriteFault text) s holds is = absurd holds

-- how `decode` ends
pub decoded_end : (bs : List ℕ) (r : Reply) (s : Status) → IsDecodeReply bs r → s ≡ status_of r → IsDoneOrOutOfMemory s
decoded_end bs (Done text) s holds is = inl is
decoded_end bs (PlanRefused text) s holds is = absurd holds
decoded_end bs (EventLimit text) s holds is = absurd holds
decoded_end bs (Unfinished text) s holds is = inr is
decoded_end bs (NotRun text) s holds is = absurd holds
decoded_end bs Usage s holds is = absurd holds
decoded_end bs ReadFault s holds is = absurd holds
decoded_end bs TooLong s holds is = absurd holds
decoded_end bs (WriteFault text) s holds is = absurd holds

-- how a question about two nodes of a plan ends
pub asked_end : (question : Question) (from to bs : List ℕ) (p : Plan) (r : Reply) (s : Status) → PlanOf bs (Ok p) →
    IsAskReply question from to bs r → s ≡ status_of r → IsDoneOrOutOfMemory s
asked_end question from to bs p (Done text) s plan holds is = inl is
asked_end question from to bs p (PlanRefused text) s plan holds is = absurd (no_plan bs holds.0 p holds.1 plan)
asked_end question from to bs p (EventLimit text) s plan holds is = absurd holds
asked_end question from to bs p (Unfinished text) s plan holds is = inr is
asked_end question from to bs p (NotRun text) s plan holds is = absurd holds
asked_end question from to bs p Usage s plan holds is = absurd holds
asked_end question from to bs p ReadFault s plan holds is = absurd holds
asked_end question from to bs p TooLong s plan holds is = absurd holds
asked_end question from to bs p (WriteFault text) s plan holds is = absurd holds
