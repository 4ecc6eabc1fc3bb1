-- What is answered to an input, of what was written.
use Rattle.std.proofs.{Common.{◌≡◌, ◌≢◌, ◌<◌, ◌≤◌, ◌∙◌, ℕ, List, [], ◌++◌, length, take, inl, inr, refl, sym, subst, append-nil}, KnownBytes.{Appends-nil, Appends-trans}}
use Rattle.std.specs.{Prelude.{Option, Some, None, Ok}, Io.KnownBytes.Appends}
use Rattle.ason_base.specs.declared.ids.NodeId.{NodeId}
use Rattle.ason_io.specs.Faults.{Rose}
use Rattle.plan_reader.specs.{declared.plan.Plan.Plan, Plans.PlanOf}
use Rattle.table_text.specs.TableText.{stopped_text}
use Rattle.commands.specs.{declared.status.Status.Status, Replies.{Ask, Check, Decode, Done, EventLimit, Reply, Request, Run, Survey, Trace, Unfinished, Watch, WriteFault, TakesPlan, WasTold, WasToldOrNothing, request_for}, Paces.PaceView, Tasks.task_of, declared.tasks.Inquiry.Inquiry, declared.tasks.Task.Task}
use Rattle.ason_main.specs.{Answers.{IsRunReply, HasKeptBegun, HasKeptBroken, HasKeptFleet, IsAnswered, IsJudged, IsReply, IsReplyTo, IsStopBroken, IsWhole, TellsItsRun, TellsRun, TellsRunFor, printing}, RunLaws.RunLaws, declared.runner.stops.Stop.Stop, Outputs.{HasBeenCut, HasEnded, IsBegun, IsBrokenOff, IsFleetKept, IsTheCut, IsTheOutput, end_stage}, Surveys.{StopsSurvey, TellsTheSurvey, silent}, Running.HasWritten}
use Rattle.fleet.specs.Standing.{FleetState}
use Rattle.script_rules.specs.{Outputs.{How, script_of}, Stages.Stage}
use Rattle.ason_main.proofs.{OneLine.rose_later, PlanRuns.begun_whole}

-- Runs

-- what is kept of a run
has_begun : (p : Plan) (how : How) (f : FleetState) (o : Option FleetState) (text : List ℕ) → o ≡ Some f →
    IsBegun p how (script_of p) f text → HasKeptBegun p how (script_of p) o text
has_begun p how f o text is begun = subst (λ q. HasKeptBegun p how (script_of p) q text) (sym is) begun

pub has_kept : (p : Plan) (f : FleetState) (o : Option FleetState) (s : Stage) → o ≡ Some f → IsFleetKept p f s →
    HasKeptFleet p o s
has_kept p f o s is kept = subst (λ q. HasKeptFleet p q s) (sym is) kept

-- where memory was wanting behind a run that came to its end, or was stopped
pub output_begun : RunLaws → (p : Plan) (how : How) (f : FleetState) (more : List Stage) (text : List ℕ) →
    IsTheOutput p how more text → IsFleetKept p f (end_stage more) → IsBegun p how (script_of p) f text
output_begun laws p how f more text is kept =
    begun_whole laws p how (script_of p) f more text is.output.one_run is.output.printed kept.stands

pub cut_begun : RunLaws → (p : Plan) (how : How) (n : NodeId) (f : FleetState) (more : List Stage) (text : List ℕ) →
    IsTheCut p how n more text → IsFleetKept p f (end_stage more) → IsBegun p how (script_of p) f text
cut_begun laws p how n f more text is kept =
    begun_whole laws p how (script_of p) f more text is.output.one_run is.output.printed kept.stands

pub ended : {K : Type 0} (written : K → Option (List ℕ)) (faults : K → ℕ) (bs : List ℕ) (p : Plan) (pace : PaceView)
    (f : FleetState) (kept : Option FleetState) (old new : K) → PlanOf bs (Ok p) → kept ≡ Some f →
    HasEnded p (printing pace.workers) f (written old) (written new) →
    IsAnswered written faults (Run pace) bs old new kept Status.Done
ended written faults bs p pace f kept old new plan keeps is = (
  Done is.text,
  (p, plan, (is.more, is.output, has_kept p f kept (end_stage is.more) keeps is.kept)),
  inl (refl, is.written),
  refl,
)

pub failed : {K : Type 0} (written : K → Option (List ℕ)) (faults : K → ℕ) (bs : List ℕ) (p : Plan) (pace : PaceView)
    (f : FleetState) (kept : Option FleetState) (old new : K) → PlanOf bs (Ok p) → kept ≡ Some f →
    Rose (faults old) (faults new) →
    HasWritten (written old) (written new) (IsBrokenOff p (printing pace.workers) f) →
    IsAnswered written faults (Run pace) bs old new kept Status.WriteFault
failed written faults bs p pace f kept old new plan keeps rose is = (
  WriteFault is.0,
  (p, plan, inl (subst (λ o. HasKeptBroken p (printing pace.workers) o is.0) (sym keeps) is.1)),
  (refl, rose, is.2),
  tt,
)

pub unfinished : {K : Type 0} (written : K → Option (List ℕ)) (faults : K → ℕ) (bs : List ℕ) (p : Plan)
    (pace : PaceView) (f : FleetState) (kept : Option FleetState) (old new : K) → PlanOf bs (Ok p) → kept ≡ Some f →
    HasWritten (written old) (written new) (IsBegun p (printing pace.workers) (script_of p) f) →
    IsAnswered written faults (Run pace) bs old new kept Status.OutOfMemory
unfinished written faults bs p pace f kept old new plan keeps is = (
  Unfinished is.0,
  inr (p, plan, has_begun p (printing pace.workers) f kept is.0 keeps is.1),
  inl (refl, is.2),
  refl,
)

-- the reply of a run that was stopped
stopped_reply : (bs : List ℕ) (p : Plan) (workers : ℕ) (n : NodeId) (f : FleetState) (kept : Option FleetState)
    (a b : Option (List ℕ)) → PlanOf bs (Ok p) → kept ≡ Some f → (is : HasBeenCut p (printing workers) n f a b) →
    IsRunReply workers bs (EventLimit (is.text ++ stopped_text p n)) kept
stopped_reply bs p workers n f kept a b plan keeps is = (
  p,
  plan,
  (
    n,
    is.more,
    record { told = is.text; cut = is.output; all = refl },
    has_kept p f kept (end_stage is.more) keeps is.kept,
  ),
)

-- the sink failed in the line of the stop, and took so much of it
pub stop_broken : (p : Plan) (how : How) (n : NodeId) (f : FleetState) (a b : Option (List ℕ))
    (is : HasBeenCut p how n f a b) (count : ℕ) → count < length (stopped_text p n) →
    IsStopBroken p how (is.text ++ take count (stopped_text p n)) (Some f)
stop_broken p how n f a b is count within = record {
  node = n;
  more = is.more;
  told = is.text;
  cut = is.output;
  part = (count, within, refl);
  keeps = is.kept;
}

-- the line of the stop comes last
pub stopped : {K : Type 0} (written : K → Option (List ℕ)) (faults : K → ℕ) → RunLaws → (bs : List ℕ) (p : Plan)
    (pace : PaceView) (n : NodeId) (f : FleetState) (kept : Option FleetState) (old now new : K) (s : Status) →
    PlanOf bs (Ok p) → kept ≡ Some f → faults old ≤ faults now →
    HasBeenCut p (printing pace.workers) n f (written old) (written now) →
    WasToldOrNothing written faults now new (stopped_text p n) Status.EventLimit s →
    IsAnswered written faults (Run pace) bs old new kept s
stopped written faults laws bs p pace n f kept old now new s plan keeps rises is (inl (inl told)) = (
  EventLimit (is.text ++ stopped_text p n),
  stopped_reply bs p pace.workers n f kept (written old) (written now) plan keeps is,
  inl (told.0, Appends-trans (written old) (written now) (written new) is.text (stopped_text p n) is.written told.1),
  told.0,
)
stopped written faults laws bs p pace n f kept old now new s plan keeps rises is (inl (inr part)) = (
  WriteFault (is.text ++ take part.2.0 (stopped_text p n)),
  (
    p,
    plan,
    inr (subst (IsStopBroken p (printing pace.workers) (is.text ++ take part.2.0 (stopped_text p n))) (sym keeps)
        (stop_broken p (printing pace.workers) n f (written old) (written now) is part.2.0 part.2.1)),
  ),
  (
    part.0,
    rose_later (faults old) (faults now) (faults new) rises part.1,
    Appends-trans (written old) (written now) (written new) is.text (take part.2.0 (stopped_text p n)) is.written
        part.2.2,
  ),
  tt,
)
stopped written faults laws bs p pace n f kept old now new s plan keeps rises is (inr none) = (
  Unfinished is.text,
  inr (
    p,
    plan,
    has_begun p (printing pace.workers) f kept is.text keeps
        (cut_begun laws p (printing pace.workers) n f is.more is.text is.output is.kept),
  ),
  inl (
    none.0,
    subst (Appends (written old) (written new)) (append-nil is.text)
        (Appends-trans (written old) (written now) (written new) is.text [] is.written none.1),
  ),
  none.0,
)

-- Surveys

-- what was told after a run of which nothing was written
pub told_after : {K : Type 0} (written : K → Option (List ℕ)) (faults : K → ℕ) (old now new : K) (text : List ℕ)
    (status s : Status) → Appends (written old) (written now) [] → faults old ≤ faults now →
    WasTold written faults now new text status s → WasTold written faults old new text status s
told_after written faults old now new text status s none rises (inl told) =
    inl (told.0, Appends-trans (written old) (written now) (written new) [] text none told.1)
told_after written faults old now new text status s none rises (inr part) = inr (
  part.0,
  rose_later (faults old) (faults now) (faults new) rises part.1,
  (
    part.2.0,
    part.2.1,
    Appends-trans (written old) (written now) (written new) [] (take part.2.0 text) none part.2.2,
  ),
)

pub surveyed : {K : Type 0} (written : K → Option (List ℕ)) (faults : K → ℕ) (bs : List ℕ) (p : Plan)
    (f : FleetState) (kept : Option FleetState) (old now new : K) (text : List ℕ) (s : Status) → PlanOf bs (Ok p) →
    kept ≡ Some f → Appends (written old) (written now) [] → faults old ≤ faults now → TellsTheSurvey p f text →
    WasTold written faults now new text Status.Done s → IsAnswered written faults Survey bs old new kept s
surveyed written faults bs p f kept old now new text s plan keeps none rises tells told = (
  Done text,
  (p, plan, (tells.more, tells.survey, has_kept p f kept (end_stage tells.more) keeps tells.kept)),
  told_after written faults old now new text Status.Done s none rises told,
  tt,
)

-- the line of the stop is all that is told
pub stopped_survey : {K : Type 0} (written : K → Option (List ℕ)) (faults : K → ℕ) → RunLaws → (bs : List ℕ) (p : Plan)
    (n : NodeId) (f : FleetState) (kept : Option FleetState) (old now new : K) (s : Status) → PlanOf bs (Ok p) →
    kept ≡ Some f → Appends (written old) (written now) [] → faults old ≤ faults now →
    StopsSurvey p f (Stop.AtLimit n) → WasToldOrNothing written faults now new (stopped_text p n) Status.EventLimit s →
    IsAnswered written faults Survey bs old new kept s
stopped_survey written faults laws bs p n f kept old now new s plan keeps none rises stops (inl told) = (
  EventLimit (stopped_text p n),
  (p, plan, (n, stops.0, stops.1, has_kept p f kept (end_stage stops.0) keeps stops.2)),
  told_after written faults old now new (stopped_text p n) Status.EventLimit s none rises told,
  tt,
)
stopped_survey written faults laws bs p n f kept old now new s plan keeps none rises stops (inr nothing) = (
  Unfinished [],
  (
    refl,
    inr (
      p,
      plan,
      has_begun p silent f kept [] keeps (cut_begun laws p silent n f stops.0 [] stops.1.cut stops.2),
    ),
  ),
  inl (nothing.0, Appends-trans (written old) (written now) (written new) [] [] none nothing.1),
  tt,
)

-- memory was wanting, and nothing was written
pub survey_starved : {K : Type 0} (written : K → Option (List ℕ)) (faults : K → ℕ) (bs : List ℕ) (p : Plan)
    (f : FleetState) (kept : Option FleetState) (old new : K) → PlanOf bs (Ok p) → kept ≡ Some f →
    Appends (written old) (written new) [] → IsBegun p silent (script_of p) f [] →
    IsAnswered written faults Survey bs old new kept Status.OutOfMemory
survey_starved written faults bs p f kept old new plan keeps none begun =
    (Unfinished [], (refl, inr (p, plan, has_begun p silent f kept [] keeps begun)), inl (refl, none), tt)

-- Before anything is told

-- another status than done
pub other_status : (k : Request) (r : Reply) (s status : Status) → IsWhole r s → s ≡ status →
    ¬ (status ≡ Status.Done) → TellsRun k r s
other_status (Run pace) r s status whole is other = whole
other_status (Trace pace) r s status whole is other = λ done. absurd (other (sym is ∙ done))
other_status (Watch pace name) r s status whole is other = whole
other_status Check r s status whole is other = tt
other_status Decode r s status whole is other = tt
other_status Survey r s status whole is other = tt
other_status (Ask question from to) r s status whole is other = tt

-- what is told with one
pub told_other : {K : Type 0} (written : K → Option (List ℕ)) (faults : K → ℕ) (k : Request) (r : Reply) (old new : K)
    (text : List ℕ) (status s : Status) → IsWhole r s → ¬ (status ≡ Status.Done) →
    WasTold written faults old new text status s → TellsRun k r s
told_other written faults k r old new text status s whole other (inl told) =
    other_status k r s status whole told.0 other
told_other written faults k r old new text status s whole other (inr part) =
    other_status k r s Status.WriteFault whole part.0 (λ e. absurd (cc (e)))

nothing_judged : (k : Request) (bs : List ℕ) (kept : Option FleetState) → kept ≡ None →
    IsJudged k bs (Unfinished []) kept
nothing_judged (Run pace) bs kept none = inl (refl, none)
nothing_judged (Trace pace) bs kept none = inl (refl, inl (refl, none))
nothing_judged (Watch pace name) bs kept none = inl (refl, none)
nothing_judged Check bs kept none = (refl, none)
nothing_judged Decode bs kept none = (refl, none)
nothing_judged Survey bs kept none = (refl, inl (refl, none))
nothing_judged (Ask question from to) bs kept none = (refl, none)

-- memory was wanting, and nothing was written
pub starved : {K : Type 0} (written : K → Option (List ℕ)) (faults : K → ℕ) (k : Request) (bs : List ℕ) (old new : K)
    (kept : Option FleetState) (s : Status) → kept ≡ None →
    (s ≡ Status.OutOfMemory) × Appends (written old) (written new) [] → IsAnswered written faults k bs old new kept s
starved written faults k bs old new kept s none nothing = (
  Unfinished [],
  nothing_judged k bs kept none,
  inl nothing,
  other_status k (Unfinished []) s Status.OutOfMemory nothing.0 nothing.0 (λ e. absurd (cc (e))),
)

pub no_memory : {K : Type 0} (written : K → Option (List ℕ)) (faults : K → ℕ) (k : Request) (bs : List ℕ) (out : K)
    (kept : Option FleetState) → kept ≡ None → IsAnswered written faults k bs out out kept Status.OutOfMemory
no_memory written faults k bs out kept none =
    starved written faults k bs out out kept Status.OutOfMemory none (refl, Appends-nil (written out))

pub takes_plan : (words : List (List ℕ)) (q : Inquiry) → q ≢ Inquiry.Check → q ≢ Inquiry.Decode →
    TakesPlan (request_for words q)
takes_plan words (Inquiry.Run pace) check decode = tt
takes_plan words (Inquiry.Trace pace) check decode = tt
takes_plan words (Inquiry.Watch pace behind) check decode = tt
takes_plan words Inquiry.Check check decode = absurd (check refl)
takes_plan words Inquiry.Decode check decode = absurd (decode refl)
takes_plan words Inquiry.Survey check decode = tt
takes_plan words (Inquiry.Ask question) check decode = tt

-- Words

-- what is said of the words that ask for this
pub task_reply : {S : Type 0} (left : S → Option (List ℕ)) (handed : S → List ℕ → S → Type 0) (ended : S → Type 0)
    (faults : S → ℕ) (words : List (List ℕ)) (old new : S) (r : Reply) (kept : Option FleetState) (o : Option Task) →
    task_of words ≡ o → IsReplyTo left handed ended faults words old new r kept o →
    IsReply left handed ended faults words old new r kept
task_reply left handed ended faults words old new r kept o word is =
    subst (IsReplyTo left handed ended faults words old new r kept) (sym word) is

-- and of their trace
pub task_tells : (words : List (List ℕ)) (r : Reply) (s : Status) (o : Option Task) → task_of words ≡ o →
    TellsRunFor words o r s → TellsItsRun words r s
task_tells words r s o word is = subst (λ (q : Option Task). TellsRunFor words q r s) (sym word) is
