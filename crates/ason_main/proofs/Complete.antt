-- Words with a meaning, a plan without fault and no end that fails.
use Rattle.std.proofs.{Common.{◌≡◌, ◌∙◌, ◌≤◌, ◌<◌, ◌+◌, ◌++◌, ℕ, List, append-nil, inl, inr, length, sym, ap, subst, arith, length-append, []}, lemmas.Bool.cases_lt}
use Rattle.std.specs.{Prelude.{◌⊎◌, Option, Some, None, IfSome}, Io.KnownBytes.{Appends, Consumes}}
use Rattle.ason_io.specs.{Faults.Rose, Reading.WasReadToEnd}
use Rattle.commands.specs.{declared.tasks.Task.Task, declared.status.Status.Status, Replies.{Ask, Check, Decode, Request, Trace, Done, EventLimit, NotRun, PlanRefused, ReadFault, Reply, TooLong, Unfinished, Usage, WriteFault, IsDoneOrOutOfMemory, WasGiven, WasTold, request_for, status_of, text_of_reply}}
use Rattle.fleet.specs.Standing.{FleetState}
use Rattle.load_plan.specs.declared.parts.LoadParts.{LoadParts}
use Rattle.trace_text.specs.Complete.{EveryCheckIsOne}
use Rattle.ason_main.specs.{Answers.{EndsLoad, EndsOn, EndsTooLong, EndsWell, HasReadFew, IsCheckedTrace, IsComplete, IsCompleteLoad, IsJudged, IsLoadReply, IsReadAndJudged, IsReply, IsReplyFor, IsReplyTo, PassesCheck, TellsItsRun, TellsRun, TellsRunFor, generated}, Running.HasWritten, Traces.IsTraceOfRun}
use Rattle.ason_main.proofs.{Ends.{out_of_memory, well_ended}, OneLoad.load_ends}

-- no more is consumed than was there
consumed : (all bs : List ℕ) (rest : Option (List ℕ)) → Consumes (Some all) rest bs → length bs ≤ length all
consumed all bs None is = absurd is
consumed all bs (Some rest) is = subst (λ n. length bs ≤ n) (sym (ap length is ∙ length-append bs rest)) (grind arith)

-- what was read to its end
read_few : {S : Type 0} (left : S → Option (List ℕ)) (handed : S → List ℕ → S → Type 0) (ended : S → Type 0)
    (old new : S) (bs : List ℕ) →
    WasReadToEnd left handed ended old new bs → length bs ≤ 4194304 → HasReadFew left handed old new
read_few left handed ended old new bs read few = (
  bs,
  record {
    handed_out = read.handed_out;
    told = all (left old)
        (left new) read.told;
  },
  few,
)
  where
    all : (known rest : Option (List ℕ)) → IfSome known (λ all. (all ≡ bs) × (rest ≡ Some [])) → Consumes known rest bs
    all None rest told = tt
    all (Some xs) None told = let none : None ≡ Some [] = told.1 in absurd (cc)
    all (Some xs) (Some ys) told = let none : ys ≡ [] = cc (told.1) in
        told.0 ∙ (sym (append-nil bs) ∙ ap (λ zs. bs ++ zs) (sym none))

-- what is answered of it
pub judged_for : {S : Type 0} (left : S → Option (List ℕ)) (handed : S → List ℕ → S → Type 0) (ended : S → Type 0)
    (faults : S → ℕ) (old new : S) (bs : List ℕ) (k : Request) (r : Reply) (kept : Option FleetState) →
    WasReadToEnd left handed ended old new bs → length bs ≤ 4194304 → IsJudged k bs r kept →
    IsReplyFor left handed ended faults old new k r kept
judged_for left handed ended faults old new bs k (Done text) kept read few is = (bs, read, few, is)
judged_for left handed ended faults old new bs k (NotRun text) kept read few is = (bs, read, few, is)
judged_for left handed ended faults old new bs k (PlanRefused text) kept read few is = (bs, read, few, is)
judged_for left handed ended faults old new bs k (EventLimit text) kept read few is = (bs, read, few, is)
judged_for left handed ended faults old new bs k (Unfinished text) kept read few is =
    (read_few left handed ended old new bs read few, inr (bs, read, few, is))
judged_for left handed ended faults old new bs k (WriteFault text) kept read few is = (bs, read, few, is)
judged_for left handed ended faults old new bs Check r kept read few is = absurd is.0
judged_for left handed ended faults old new bs Decode r kept read few is = absurd is.0
judged_for left handed ended faults old new bs (Ask question from to) r kept read few is = absurd is.0
judged_for left handed ended faults old new bs k r kept read few is = absurd is

too_many : (n m : ℕ) → n ≡ 4194304 + 1 → m ≤ 4194304 → n ≤ m → ⊥
too_many n m a b c = grind arith

-- where the source tells its bytes, all of them were read
all_read : {S : Type 0} (left : S → Option (List ℕ)) (old new : S) (bs read : List ℕ) → left old ≡ Some bs →
    IfSome (left old) (λ all. (all ≡ read) × (left new ≡ Some [])) → read ≡ bs
all_read left old new bs read tells told = sym (subst (λ l. IfSome l (λ all. (all ≡ read) ×
    (left new ≡ Some []))) tells told).0

replied_end : EveryCheckIsOne → {S : Type 0} (left : S → Option (List ℕ)) (handed : S → List ℕ → S → Type 0)
    (ended : S → Type 0) (faults : S → ℕ) (old new : S) (k : Request) (bs : List ℕ) (r : Reply)
    (kept : Option FleetState) (s : Status) →
    left old ≡ Some bs → length bs ≤ 4194304 → ¬ Rose (faults old) (faults new) → ¬ (s ≡ Status.WriteFault) →
    IsReplyFor left handed ended faults old new k r kept → s ≡ status_of r → EndsWell k bs s
replied_end law left handed ended faults old new k bs r kept s tells short no_read whole = go r
  where
    judged : (r : Reply) → IsReadAndJudged left handed ended old new k r kept → s ≡ status_of r → EndsWell k bs s
    judged r holds is = well_ended law k bs r kept s whole (subst (λ xs. IsJudged k xs r kept)
        (all_read left old new bs holds.0 tells holds.1.told) holds.3) is

    go : (r : Reply) → IsReplyFor left handed ended faults old new k r kept → s ≡ status_of r → EndsWell k bs s
    go (Done text) holds is = judged (Done text) holds is
    go (NotRun text) holds is = judged (NotRun text) holds is
    go Usage holds is = absurd holds
    go (WriteFault text) holds is = absurd (whole is)
    go (PlanRefused text) holds is = judged (PlanRefused text) holds is
    go ReadFault holds is = absurd (no_read holds.0)
    go (EventLimit text) holds is = judged (EventLimit text) holds is
    go (Unfinished text) holds is = out_of_memory k bs s is
    go TooLong holds is = absurd (too_many (length holds.0.0) (length bs) holds.0.2 short (consumed bs holds.0.0
        (left new) (subst (λ l. Consumes l (left new) holds.0.0) tells holds.0.1.told)))

replied_too_long : {S : Type 0} (left : S → Option (List ℕ)) (handed : S → List ℕ → S → Type 0) (ended : S → Type 0)
    (faults : S → ℕ) (old new : S) (k : Request) (bs : List ℕ) (r : Reply) (kept : Option FleetState) (s : Status) →
    left old ≡ Some bs → 4194304 < length bs → ¬ Rose (faults old) (faults new) →
    IsReplyFor left handed ended faults old new k r kept → s ≡ status_of r → EndsTooLong s
replied_too_long left handed ended faults old new k bs r kept s tells long no_read = go r
  where
    not_judged : (r : Reply) → IsReadAndJudged left handed ended old new k r kept → ⊥
    not_judged r holds =
        let same : length holds.0 ≡ length bs = ap length (all_read left old new bs holds.0 tells holds.1.told) in
        let few : length holds.0 ≤ 4194304 = holds.2 in
        absurd (omega arith)

    go : (r : Reply) → IsReplyFor left handed ended faults old new k r kept → s ≡ status_of r → EndsTooLong s
    go (Done text) holds is = absurd (not_judged (Done text) holds)
    go (NotRun text) holds is = absurd (not_judged (NotRun text) holds)
    go Usage holds is = absurd holds
    go (PlanRefused text) holds is = absurd (not_judged (PlanRefused text) holds)
    go (WriteFault text) holds is = absurd (not_judged (WriteFault text) holds)
    go ReadFault holds is = absurd (no_read holds.0)
    go (EventLimit text) holds is = absurd (not_judged (EventLimit text) holds)
    go (Unfinished text) holds is = inr is
    go TooLong holds is = inl is

-- How a reply was given

-- the sink failed, or the text was written as a whole, with a status that tells of no sink that fails
abbrev WasWhole : {K : Type 0} → (K → Option (List ℕ)) → (K → ℕ) → K → K → List ℕ → Status → Status → Type 0
WasWhole written faults old new text status s =
    ((s ≡ Status.WriteFault) × Rose (faults old) (faults new))
    ⊎ ((s ≡ status) × Appends (written old) (written new) text × (¬ (s ≡ Status.WriteFault)))

told_whole : {K : Type 0} (written : K → Option (List ℕ)) (faults : K → ℕ) (old new : K) (text : List ℕ)
    (status s : Status) → ¬ (status ≡ Status.WriteFault) → WasTold written faults old new text status s →
    WasWhole written faults old new text status s
told_whole written faults old new text status s other (inl told) =
    inr (told.0, told.1, λ fault. absurd (other (sym told.0 ∙ fault)))
told_whole written faults old new text status s other (inr part) = inl (part.0, part.1)

given_whole : {K : Type 0} (written : K → Option (List ℕ)) (faults : K → ℕ) (old new : K) (r : Reply) (s : Status) →
    WasGiven written faults old new r s → WasWhole written faults old new (text_of_reply r) (status_of r) s
given_whole written faults old new (WriteFault text) s given = inl (given.0, given.1)
given_whole written faults old new (Done text) s given =
    told_whole written faults old new text Status.Done s (λ e. absurd (cc (e))) given
given_whole written faults old new (NotRun text) s given =
    told_whole written faults old new text Status.NotRun s (λ e. absurd (cc (e))) given
given_whole written faults old new Usage s given =
    told_whole written faults old new (text_of_reply Usage) Status.Usage s (λ e. absurd (cc (e))) given
given_whole written faults old new (PlanRefused text) s given =
    told_whole written faults old new text Status.PlanRefused s (λ e. absurd (cc (e))) given
given_whole written faults old new ReadFault s given =
    told_whole written faults old new [] Status.ReadFault s (λ e. absurd (cc (e))) given
given_whole written faults old new (EventLimit text) s given =
    told_whole written faults old new text Status.EventLimit s (λ e. absurd (cc (e))) given
given_whole written faults old new (Unfinished text) s given =
    told_whole written faults old new text Status.OutOfMemory s (λ e. absurd (cc (e))) given
given_whole written faults old new TooLong s given =
    told_whole written faults old new (text_of_reply TooLong) Status.TooLong s (λ e. absurd (cc (e))) given

pub is_complete : EveryCheckIsOne → {S K : Type 0} (left : S → Option (List ℕ)) (handed : S → List ℕ → S → Type 0)
    (ended : S → Type 0) (faults : S → ℕ) (written : K → Option (List ℕ)) (sink_faults : K → ℕ)
    (words : List (List ℕ)) (old new : S) (sink_old sink_new : K) (r : Reply) (kept : Option FleetState) (s : Status) →
    IsReply left handed ended faults words old new r kept → WasGiven written sink_faults sink_old sink_new r s →
    IsComplete left faults sink_faults words old new sink_old sink_new s
is_complete law left handed ended faults written sink_faults words old new sink_old sink_new r kept s reply
    given inquiry word bs tells no_read no_write =
    go (given_whole written sink_faults sink_old sink_new r s given)
  where
    k : Request
    k = request_for words inquiry

    said : IsReplyFor left handed ended faults old new k r kept
    said = subst (IsReplyTo left handed ended faults words old new r kept) word reply

    go : WasWhole written sink_faults sink_old sink_new (text_of_reply r) (status_of r) s → EndsOn k bs s
    go (inl failed) = absurd (no_write failed.1)
    go (inr whole) = (
      λ short. replied_end law left handed ended faults old new k bs r kept s tells short no_read whole.2 said whole.0,
      λ long. replied_too_long left handed ended faults old new k bs r kept s tells long no_read said whole.0,
    )

-- Traces that are checked

too_long : (n : ℕ) (s : Status) → 4194304 < n → EndsTooLong s →
    IsDoneOrOutOfMemory s ⊎ ((s ≡ Status.TooLong) × (4194304 < n))
too_long n s long (inl is) = inr (is, long)
too_long n s long (inr is) = inl (inr is)

-- the trace of a run passes `check`
passes : (text : List ℕ) → IsTraceOfRun text → PassesCheck text
passes text run s ends = by_length (cases_lt 4194304 (length text))
  where
    by_length : (4194304 < length text) ⊎ (length text ≤ 4194304) →
        IsDoneOrOutOfMemory s ⊎ ((s ≡ Status.TooLong) × (4194304 < length text))
    by_length (inl long) = too_long (length text) s long (ends.1 long)
    by_length (inr short) = inl ((ends.0 short).done run.0 (inl run.1))

pub is_checked_trace : {K : Type 0} (written : K → Option (List ℕ)) (faults : K → ℕ) (words : List (List ℕ))
    (old new : K) (r : Reply) (s : Status) → WasGiven written faults old new r s → TellsItsRun words r s →
    IsCheckedTrace written words old new s
is_checked_trace written faults words old new r s given tells pace word done =
    go (given_whole written faults old new r s given)
  where
    go : WasWhole written faults old new (text_of_reply r) (status_of r) s →
        HasWritten (written old) (written new) PassesCheck
    go (inl failed) = let fault : Status.WriteFault ≡ Status.Done = sym failed.0 ∙ done in absurd (cc (fault))
    go (inr whole) =
        let run : TellsRun (Trace pace) r s = subst (λ (o : Option Task). TellsRunFor words o r s) word tells in
        (text_of_reply r, passes (text_of_reply r) (run done), whole.1)

-- Loads

loaded_end : (l : LoadParts) (r : Reply) (kept : Option FleetState) (s : Status) → IsLoadReply l r kept →
    s ≡ status_of r → EndsLoad l s
loaded_end l (Done text) kept s holds is =
    inl (is, load_ends l holds.0 text None holds.1.is.printed holds.1.is.ended)
loaded_end l (EventLimit text) kept s holds is =
    let cut = holds.2.cut.is in
    inr (inl (is, (holds.0, load_ends l holds.1 holds.2.told (Some holds.0) cut.printed cut.stopped)))
loaded_end l (Unfinished text) kept s holds is = inr (inr is)
loaded_end l (WriteFault text) kept s holds is = absurd holds
loaded_end l (PlanRefused text) kept s holds is = absurd holds
loaded_end l (NotRun text) kept s holds is = absurd holds
loaded_end l Usage kept s holds is = absurd holds
loaded_end l ReadFault kept s holds is = absurd holds
loaded_end l TooLong kept s holds is = absurd holds

pub is_complete_load : {S K : Type 0} (left : S → Option (List ℕ)) (handed : S → List ℕ → S → Type 0)
    (ended : S → Type 0) (faults : S → ℕ) (written : K → Option (List ℕ)) (sink_faults : K → ℕ)
    (words : List (List ℕ)) (old new : S) (sink_old sink_new : K) (r : Reply) (kept : Option FleetState) (s : Status) →
    IsReply left handed ended faults words old new r kept → WasGiven written sink_faults sink_old sink_new r s →
    IsCompleteLoad sink_faults words sink_old sink_new s
is_complete_load left handed ended faults written sink_faults words old new sink_old sink_new r kept s reply
    given load word no_write = go (given_whole written sink_faults sink_old sink_new r s given)
  where
    go : WasWhole written sink_faults sink_old sink_new (text_of_reply r) (status_of r) s → EndsLoad (generated load) s
    go (inl failed) = absurd (no_write failed.1)
    go (inr whole) =
        let said = subst (IsReplyTo left handed ended faults words old new r kept) word reply in
        loaded_end (generated load) r kept s said.0 whole.0
