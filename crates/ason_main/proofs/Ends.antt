-- How what is asked for ends on bytes that were judged.
use Rattle.std.proofs.Common.{◌≡◌, ◌∙◌, ℕ, List, [], inl, inr, sym, ap, subst}
use Rattle.std.specs.Prelude.{IsSome, Option, Some, None, Ok}
use Rattle.ason_base.specs.declared.ids.NodeId.{NodeId}
use Rattle.fleet.specs.Standing.{FleetState}
use Rattle.plan_reader.specs.{Plans.PlanOf, declared.plan.Plan.Plan}
use Rattle.plan_reader.proofs.Agree.{no_plan, one_plan}
use Rattle.script_rules.specs.{Outputs.{How, Prints, script_of}, Stages.{Stage, new_stage}}
use Rattle.table_text.specs.EndsText.{plan_node}
use Rattle.script_rules.proofs.Alone.{function_end}
use Rattle.trace_text.specs.Complete.{EveryCheckIsOne}
use Rattle.commands.specs.{declared.status.Status.Status, Replies.{Ask, Check, Decode, Request, Run, Survey, Trace, Watch, Done, EventLimit, NotRun, PlanRefused, ReadFault, Reply, TooLong, Unfinished, Usage, WriteFault, status_of}}
use Rattle.commands.proofs.Ended.{asked_end, checked_end, decoded_end}
use Rattle.ason_main.specs.{Answers.{RunComesTo, EndsWatch, EndsWell, IsRunEnd, IsJudged, IsRunReply, IsSurveyReply, IsTraceReply, IsWatchOf, IsWatchReply, printing}, Outputs.{end_stage, silent_on}, Surveys.silent}

-- where the plan's run comes to an end
comes_to : (p : Plan) (how : How) (stop : Option NodeId) (more : List Stage) (text : List ℕ) →
    Prints p how (script_of p) new_stage more text → (end_stage more).stopped ≡ stop → RunComesTo p how stop
comes_to p how stop more text printed stopped = record {
  more = more;
  text = text;
  printed = printed;
  stopped = stopped;
  one = λ one. sym (ap (λ (s : Stage). s.stopped) (function_end p how (script_of p) new_stage more text one printed))
      ∙ stopped;
}

-- the same, told of the plan that was read
comes_for : (bs : List ℕ) (p q : Plan) (how : How) (stop : Option NodeId) (more : List Stage) (text : List ℕ) →
    PlanOf bs (Ok q) → PlanOf bs (Ok p) → Prints q how (script_of q) new_stage more text →
    (end_stage more).stopped ≡ stop → RunComesTo p how stop
comes_for bs p q how stop more text from plan printed stopped =
    subst (λ (x : Plan). RunComesTo x how stop) (one_plan bs q p from plan)
    (comes_to q how stop more text printed stopped)

-- a plan's reply
judged_end : (workers : ℕ) (bs : List ℕ) (p : Plan) (r : Reply) (kept : Option FleetState) (s : Status) →
    PlanOf bs (Ok p) → ¬ (s ≡ Status.WriteFault) → IsRunReply workers bs r kept → s ≡ status_of r →
    IsRunEnd p (printing workers) s
judged_end workers bs p (Done text) kept s plan whole holds is =
    let out = holds.2.1.output in
    inl (is, comes_for bs p holds.0 (printing workers) None holds.2.0 text holds.1 plan out.printed out.ended)
judged_end workers bs p (PlanRefused text) kept s plan whole holds is =
    absurd (no_plan bs holds.0.0 p holds.0.1 plan)
judged_end workers bs p (EventLimit text) kept s plan whole holds is =
    let out = holds.2.2.cut.output in
    let at = comes_for bs p holds.0 (printing workers) (Some holds.2.0) holds.2.1 holds.2.2.told holds.1 plan
    out.printed out.stopped in
    inr (inl (is, (holds.2.0, at)))
judged_end workers bs p (Unfinished text) kept s plan whole holds is = inr (inr is)
judged_end workers bs p (WriteFault text) kept s plan whole holds is = absurd (whole is)
judged_end workers bs p r kept s plan whole holds is = absurd holds

-- the reply to a run of which the trace is told
traced_end : (workers : ℕ) (bs : List ℕ) (p : Plan) (r : Reply) (kept : Option FleetState) (s : Status) →
    PlanOf bs (Ok p) → IsTraceReply workers bs r kept → s ≡ status_of r → IsRunEnd p (silent_on workers) s
traced_end workers bs p (Done text) kept s plan holds is =
    let out = holds.2.1.is.output in
    inl (is, comes_for bs p holds.0 (silent_on workers) None holds.2.0 [] holds.1 plan out.printed out.ended)
traced_end workers bs p (PlanRefused text) kept s plan holds is = absurd (no_plan bs holds.0.0 p holds.0.1 plan)
traced_end workers bs p (EventLimit text) kept s plan holds is =
    let out = holds.2.2.cut.output in
    let at = comes_for bs p holds.0 (silent_on workers) (Some holds.2.0) holds.2.1 [] holds.1 plan out.printed
    out.stopped in
    inr (inl (is, (holds.2.0, at)))
traced_end workers bs p (Unfinished text) kept s plan holds is = inr (inr is)
traced_end workers bs p r kept s plan holds is = absurd holds

-- a survey's reply
surveyed_end : (bs : List ℕ) (p : Plan) (r : Reply) (kept : Option FleetState) (s : Status) → PlanOf bs (Ok p) →
    IsSurveyReply bs r kept → s ≡ status_of r → IsRunEnd p silent s
surveyed_end bs p (Done text) kept s plan holds is =
    let out = holds.2.1.is.output in
    inl (is, comes_for bs p holds.0 silent None holds.2.0 [] holds.1 plan out.printed out.ended)
surveyed_end bs p (PlanRefused text) kept s plan holds is = absurd (no_plan bs holds.0.0 p holds.0.1 plan)
surveyed_end bs p (EventLimit text) kept s plan holds is =
    let out = holds.2.2.cut.output in
    let at = comes_for bs p holds.0 silent (Some holds.2.0) holds.2.1 [] holds.1 plan out.printed out.stopped in
    inr (inl (is, (holds.2.0, at)))
surveyed_end bs p (Unfinished text) kept s plan holds is = inr (inr is)
surveyed_end bs p r kept s plan holds is = absurd holds

-- the reply to a run beside which a node is watched
watched_end : (workers : ℕ) (name bs : List ℕ) (p : Plan) (r : Reply) (kept : Option FleetState) (s : Status) →
    PlanOf bs (Ok p) → ¬ (s ≡ Status.WriteFault) → IsWatchReply workers name bs r kept → s ≡ status_of r →
    EndsWatch p (printing workers) (plan_node p name) s
watched_end workers name bs p (Done text) kept s plan whole holds is =
    subst (λ (q : Plan). EndsWatch q (printing workers) (plan_node q name) s) (one_plan bs holds.0 p holds.1 plan)
    (by_node (plan_node holds.0 name) holds.2)
  where
    by_node : (o : Option NodeId) → IsWatchOf holds.0 workers name o text kept →
        EndsWatch holds.0 (printing workers) o s
    by_node None of = inl is
    by_node (Some n) of =
        let out = of.1.output.output in
        inl (is, comes_to holds.0 (printing workers) None of.0 of.1.told out.printed out.ended)
watched_end workers name bs p (PlanRefused text) kept s plan whole holds is =
    absurd (no_plan bs holds.0.0 p holds.0.1 plan)
watched_end workers name bs p (EventLimit text) kept s plan whole holds is =
    subst (λ (q : Plan). EndsWatch q (printing workers) (plan_node q name) s) (one_plan bs holds.0 p holds.1 plan)
    (by_node (plan_node holds.0 name) holds.2.0)
  where
    by_node : (o : Option NodeId) → IsSome o → EndsWatch holds.0 (printing workers) o s
    by_node None some = absurd (cc (some))
    by_node (Some n) some =
        let at = holds.2.1 in
        let out = at.2.cut.output in
        inr (inl (
          is,
          (at.0, comes_to holds.0 (printing workers) (Some at.0) at.1 at.2.told out.printed out.stopped),
        ))
watched_end workers name bs p (WriteFault text) kept s plan whole holds is = absurd (whole is)
watched_end workers name bs p (Unfinished text) kept s plan whole holds is = by_node (plan_node p name)
  where
    by_node : (o : Option NodeId) → EndsWatch p (printing workers) o s
    by_node None = inr is
    by_node (Some n) = inr (inr is)
watched_end workers name bs p (NotRun text) kept s plan whole holds is = absurd holds
watched_end workers name bs p Usage kept s plan whole holds is = absurd holds
watched_end workers name bs p ReadFault kept s plan whole holds is = absurd holds
watched_end workers name bs p TooLong kept s plan whole holds is = absurd holds

no_memory_watched : (p : Plan) (how : How) (o : Option NodeId) (s : Status) → s ≡ Status.OutOfMemory →
    EndsWatch p how o s
no_memory_watched p how None s is = inr is
no_memory_watched p how (Some n) s is = inr (inr is)

-- how what is asked for ends on bytes that were judged
pub well_ended : EveryCheckIsOne → (k : Request) (bs : List ℕ) (r : Reply) (kept : Option FleetState) (s : Status) →
    ¬ (s ≡ Status.WriteFault) → IsJudged k bs r kept → s ≡ status_of r → EndsWell k bs s
well_ended law (Run pace) bs r kept s whole holds is =
    λ p plan. judged_end pace.workers bs p r kept s plan whole holds is
well_ended law (Trace pace) bs r kept s whole holds is = λ p plan. traced_end pace.workers bs p r kept s plan holds is
well_ended law (Watch pace name) bs r kept s whole holds is =
    λ p plan. watched_end pace.workers name bs p r kept s plan whole holds is
well_ended law Check bs r kept s whole holds is = checked_end law bs r s holds.0 is
well_ended law Decode bs r kept s whole holds is = decoded_end bs r s holds.0 is
well_ended law Survey bs r kept s whole holds is = λ p plan. surveyed_end bs p r kept s plan holds is
well_ended law (Ask question from to) bs r kept s whole holds is =
    λ p plan. asked_end question from to bs p r s plan holds.0 is

pub out_of_memory : (k : Request) (bs : List ℕ) (s : Status) → s ≡ Status.OutOfMemory → EndsWell k bs s
out_of_memory (Run pace) bs s is = λ p plan. inr (inr is)
out_of_memory (Trace pace) bs s is = λ p plan. inr (inr is)
out_of_memory (Watch pace name) bs s is = λ p plan. no_memory_watched p (printing pace.workers) (plan_node p name) s is
out_of_memory Check bs s is = record { done = λ c of. inr is; not_run = λ i not. inr is }
out_of_memory Decode bs s is = inr is
out_of_memory Survey bs s is = λ p plan. inr (inr is)
out_of_memory (Ask question from to) bs s is = λ p plan. inr is
