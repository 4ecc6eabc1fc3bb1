-- What the program answers to its words and to its input.
use Rattle.std.specs.Prelude.{◌≡◌, ◌<◌, ◌≤◌, ◌+◌, ◌⊎◌, ℕ, true, List, [], ◌++◌, Option, Some, None, Ok, Err, IsSome, length, map, string_bytes}
use Rattle.ason_io.specs.{Faults.Rose, Reading.{HasRead, WasReadToEnd}}
use Rattle.plan_reader.specs.{declared.lines.Line.Line, declared.plan.Plan.Plan, declared.faults.PlanFault.PlanFault, Plans.PlanOf}
use Rattle.ason_main.specs.{declared.answers.Asked.Asked, Outputs.{IsBegun, IsBrokenOff, IsFleetKept, IsStoppedSilently, IsTheCut, IsTheOutput, IsTheStoppedOutput, end_stage, silent_on}, Running.{HasWritten, IsPartBehind}, Loads.{IsTheLoad, IsTheStoppedLoad, lines_in_parts, load_end, parts_of_load}, Surveys.{IsTheSurvey, silent}, Views.IsViewOf, Traces.{IsPartOfTrace, IsTheTrace, IsTraceOfRun}}
use Rattle.commands.specs.{declared.status.Status.Status, Paces.PaceView, Replies.{Ask, Check, Decode, Request, Run, Survey, Trace, Watch, request_for, Done, EventLimit, NotRun, PlanRefused, ReadFault, Reply, TooLong, Unfinished, Usage, WriteFault, EndsCheck, IsAskReply, IsCheckReply, IsDecodeReply, IsDoneOrOutOfMemory, WasGiven, text_of_reply}, Tasks.task_of, Loads.LoadView, declared.tasks.Inquiry.Inquiry, declared.tasks.Task.Task}
use Rattle.ason_base.specs.declared.ids.NodeId.{NodeId}
use Rattle.table_text.specs.{EndsText.{no_node_text, plan_node}, FaultText.refused_text, TableText.stopped_text}
use Rattle.fleet.specs.Standing.{FleetState}
use Rattle.script_rules.specs.{OneWorker.script_end, Outputs.{How, Prints, script_of}, Stages.{Stage, new_stage}}
use Rattle.load_plan.specs.{LoadParts.load_parts_of, declared.parts.LoadParts.LoadParts}

-- what is asked, with its words
abbrev pub asked_for : Asked → Request
asked_for asked = request_for (map string_bytes asked.words.now) asked.inquiry

-- what is generated
abbrev pub generated : LoadView → LoadParts
generated load = load_parts_of load.seed load.nodes load.calls

-- Judging

-- `run` prints tables and what is unsettled
abbrev pub printing : ℕ → How
printing workers = record { workers = workers; tables = true }

-- the fleet that is kept made this stage, which is the last one
abbrev pub HasKeptFleet : Plan → Option FleetState → Stage → Type 0
HasKeptFleet p None s = ⊥
HasKeptFleet p (Some f) s = IsFleetKept p f s

-- the fleet that is kept has begun these lines, of which this was told
abbrev pub HasKeptBegun : Plan → How → List Line → Option FleetState → List ℕ → Type 0
HasKeptBegun p how lines None text = ⊥
HasKeptBegun p how lines (Some f) text = IsBegun p how lines f text

-- nothing was told and no fleet is kept, or what is told of a plan is begun
abbrev pub IsFirstPart : How → List ℕ → List ℕ → Option FleetState → Type 0
IsFirstPart how bs text kept =
    ((text ≡ []) × (kept ≡ None))
    ⊎ ((p : Plan) × PlanOf bs (Ok p) × HasKeptBegun p how (script_of p) kept text)

-- the sink failed in what a line prints, to which the fleet that is kept has come
abbrev pub HasKeptBroken : Plan → How → Option FleetState → List ℕ → Type 0
HasKeptBroken p how None text = ⊥
HasKeptBroken p how (Some f) text = IsBrokenOff p how f text

-- or in the line of a stop
pub record IsStopBroken (p : Plan) (how : How) (text : List ℕ) (kept : Option FleetState) : Type 0 where
  pub node : NodeId
  pub more : List Stage
  pub told : List ℕ
  pub cut : IsTheCut p how node more told
  pub part : IsPartBehind told (stopped_text p node) text
  pub keeps : HasKeptFleet p kept (end_stage more)

-- what was written of a run until the sink failed
abbrev pub IsBrokenRun : Plan → ℕ → List ℕ → Option FleetState → Type 0
IsBrokenRun p workers text kept =
    HasKeptBroken p (printing workers) kept text ⊎ IsStopBroken p (printing workers) text kept

-- the plan has this fault, and no fleet was made
abbrev pub IsRefused : List ℕ → List ℕ → Option FleetState → Type 0
IsRefused bs text kept = ((f : PlanFault) × PlanOf bs (Err f) × (text ≡ refused_text f)) × (kept ≡ None)

-- what the reply to `run` says of the bytes that were read to their end, and of the fleet that is kept
abbrev pub IsRunReply : ℕ → List ℕ → Reply → Option FleetState → Type 0
IsRunReply workers bs (Done text) kept =
    (p : Plan) × PlanOf bs (Ok p)
    × ((more : List Stage) × IsTheOutput p (printing workers) more text × HasKeptFleet p kept (end_stage more))
IsRunReply workers bs (PlanRefused text) kept = IsRefused bs text kept
IsRunReply workers bs (EventLimit text) kept =
    (p : Plan) × PlanOf bs (Ok p)
    × ((n : NodeId) × (more : List Stage) × IsTheStoppedOutput p (printing workers) n more text
    × HasKeptFleet p kept (end_stage more))
IsRunReply workers bs (Unfinished text) kept = IsFirstPart (printing workers) bs text kept
IsRunReply workers bs (WriteFault text) kept = (p : Plan) × PlanOf bs (Ok p) × IsBrokenRun p workers text kept
IsRunReply workers bs (NotRun text) kept = ⊥
IsRunReply workers bs Usage kept = ⊥
IsRunReply workers bs ReadFault kept = ⊥
IsRunReply workers bs TooLong kept = ⊥

-- nothing was told, and if a fleet is kept it has begun the run
abbrev pub IsNothing : ℕ → List ℕ → List ℕ → Option FleetState → Type 0
IsNothing workers bs text kept = (text ≡ []) × IsFirstPart (silent_on workers) bs [] kept

-- what the reply to `run --trace` says of them
abbrev pub IsTraceReply : ℕ → List ℕ → Reply → Option FleetState → Type 0
IsTraceReply workers bs (Done text) kept =
    (p : Plan) × PlanOf bs (Ok p)
    × ((more : List Stage) × IsTheTrace p workers bs more text × HasKeptFleet p kept (end_stage more))
IsTraceReply workers bs (PlanRefused text) kept = IsRefused bs text kept
IsTraceReply workers bs (EventLimit text) kept =
    (p : Plan) × PlanOf bs (Ok p)
    × ((n : NodeId) × (more : List Stage) × IsStoppedSilently p workers n more text
    × HasKeptFleet p kept (end_stage more))
IsTraceReply workers bs (Unfinished text) kept =
    IsNothing workers bs text kept
    ⊎ ((p : Plan) × PlanOf bs (Ok p)
    × ((more : List Stage) × IsPartOfTrace p workers bs more text × HasKeptFleet p kept (end_stage more)))
IsTraceReply workers bs (WriteFault text) kept = ⊥
IsTraceReply workers bs (NotRun text) kept = ⊥
IsTraceReply workers bs Usage kept = ⊥
IsTraceReply workers bs ReadFault kept = ⊥
IsTraceReply workers bs TooLong kept = ⊥

-- the view of this node of the fleet that is kept
abbrev pub HasView : Plan → NodeId → Option FleetState → List ℕ → Type 0
HasView p n None text = ⊥
HasView p n (Some f) text = IsViewOf p n f text

-- the plan's output and then the view of this node, of the fleet that made the run
pub record IsWatched (p : Plan) (workers : ℕ) (n : NodeId) (more : List Stage) (text : List ℕ)
    (kept : Option FleetState) : Type 0 where
  pub told : List ℕ
  pub output : IsTheOutput p (printing workers) more told
  pub view : List ℕ
  pub is_view : HasView p n kept view
  pub all : text ≡ told ++ view

-- of a plan that has no node of this name nothing is run
abbrev pub IsWatchOf : Plan → ℕ → List ℕ → Option NodeId → List ℕ → Option FleetState → Type 0
IsWatchOf p workers name None text kept = (text ≡ no_node_text name) × (kept ≡ None)
IsWatchOf p workers name (Some n) text kept =
    (more : List Stage) × IsWatched p workers n more text kept × HasKeptFleet p kept (end_stage more)

-- the sink failed in the view
pub record IsViewBroken (p : Plan) (workers : ℕ) (n : NodeId) (text : List ℕ) (kept : Option FleetState)
    : Type 0 where
  pub more : List Stage
  pub told : List ℕ
  pub output : IsTheOutput p (printing workers) more told
  pub view : List ℕ
  pub is_view : HasView p n kept view
  pub part : IsPartBehind told view text
  pub keeps : HasKeptFleet p kept (end_stage more)

-- what was written until the sink failed, where the plan has no node of the name or has this one
abbrev pub IsBrokenWatch : Plan → ℕ → List ℕ → Option NodeId → List ℕ → Option FleetState → Type 0
IsBrokenWatch p workers name None text kept = IsPartBehind [] (no_node_text name) text × (kept ≡ None)
IsBrokenWatch p workers name (Some n) text kept = IsBrokenRun p workers text kept ⊎ IsViewBroken p workers n text kept

-- what the reply to `run --watch` with this name says of them
abbrev pub IsWatchReply : ℕ → List ℕ → List ℕ → Reply → Option FleetState → Type 0
IsWatchReply workers name bs (Done text) kept =
    (p : Plan) × PlanOf bs (Ok p) × IsWatchOf p workers name (plan_node p name) text kept
IsWatchReply workers name bs (PlanRefused text) kept = IsRefused bs text kept
IsWatchReply workers name bs (EventLimit text) kept =
    (p : Plan) × PlanOf bs (Ok p)
    × (IsSome (plan_node p name)
    × ((n : NodeId) × (more : List Stage) × IsTheStoppedOutput p (printing workers) n more text
    × HasKeptFleet p kept (end_stage more)))
IsWatchReply workers name bs (Unfinished text) kept =
    ((text ≡ []) × (kept ≡ None))
    ⊎ ((p : Plan) × PlanOf bs (Ok p)
    × (IsSome (plan_node p name) × HasKeptBegun p (printing workers) (script_of p) kept text))
IsWatchReply workers name bs (WriteFault text) kept =
    (p : Plan) × PlanOf bs (Ok p) × IsBrokenWatch p workers name (plan_node p name) text kept
IsWatchReply workers name bs (NotRun text) kept = ⊥
IsWatchReply workers name bs Usage kept = ⊥
IsWatchReply workers name bs ReadFault kept = ⊥
IsWatchReply workers name bs TooLong kept = ⊥

-- what the reply to `survey` says of them
abbrev pub IsSurveyReply : List ℕ → Reply → Option FleetState → Type 0
IsSurveyReply bs (Done text) kept =
    (p : Plan) × PlanOf bs (Ok p)
    × ((more : List Stage) × IsTheSurvey p more text × HasKeptFleet p kept (end_stage more))
IsSurveyReply bs (PlanRefused text) kept = IsRefused bs text kept
IsSurveyReply bs (EventLimit text) kept =
    (p : Plan) × PlanOf bs (Ok p)
    × ((n : NodeId) × (more : List Stage) × IsStoppedSilently p 1 n more text × HasKeptFleet p kept (end_stage more))
IsSurveyReply bs (Unfinished text) kept = IsNothing 1 bs text kept
IsSurveyReply bs (WriteFault text) kept = ⊥
IsSurveyReply bs (NotRun text) kept = ⊥
IsSurveyReply bs Usage kept = ⊥
IsSurveyReply bs ReadFault kept = ⊥
IsSurveyReply bs TooLong kept = ⊥

-- what the reply to this says of them; a fleet is kept where a run was made alone
abbrev pub IsJudged : Request → List ℕ → Reply → Option FleetState → Type 0
IsJudged (Run pace) bs r kept = IsRunReply pace.workers bs r kept
IsJudged (Trace pace) bs r kept = IsTraceReply pace.workers bs r kept
IsJudged (Watch pace name) bs r kept = IsWatchReply pace.workers name bs r kept
IsJudged Check bs r kept = IsCheckReply bs r × (kept ≡ None)
IsJudged Decode bs r kept = IsDecodeReply bs r × (kept ≡ None)
IsJudged Survey bs r kept = IsSurveyReply bs r kept
IsJudged (Ask question from to) bs r kept = IsAskReply question from to bs r × (kept ≡ None)

-- Loads

-- what the reply to `load` says of the fleet that is kept
abbrev pub IsLoadReply : LoadParts → Reply → Option FleetState → Type 0
IsLoadReply l (Done text) kept = (more : List Stage) × IsTheLoad l more text × HasKeptFleet l.plan kept (end_stage more)
IsLoadReply l (EventLimit text) kept =
    (n : NodeId) × (more : List Stage) × IsTheStoppedLoad l n more text × HasKeptFleet l.plan kept (end_stage more)
IsLoadReply l (Unfinished text) kept =
    (text ≡ [])
    × ((kept ≡ None) ⊎ HasKeptBegun l.plan (silent_on 1) (lines_in_parts (parts_of_load l)) kept [])
IsLoadReply l (WriteFault text) kept = ⊥
IsLoadReply l (PlanRefused text) kept = ⊥
IsLoadReply l (NotRun text) kept = ⊥
IsLoadReply l Usage kept = ⊥
IsLoadReply l ReadFault kept = ⊥
IsLoadReply l TooLong kept = ⊥

-- Reading

-- the source was read to its end, which came after at most 4,194,304 bytes, and that is what is judged
abbrev pub IsReadAndJudged :
    {S : Type 0} → (S → Option (List ℕ)) → (S → List ℕ → S → Type 0) → (S → Type 0) → S → S → Request →
    Reply → Option FleetState → Type 0
IsReadAndJudged left handed ended old new k r kept =
    (bs : List ℕ) × WasReadToEnd left handed ended old new bs × (length bs ≤ 4194304) × IsJudged k bs r kept

-- at most 4,194,304 bytes were read
abbrev pub HasReadFew : {S : Type 0} → (S → Option (List ℕ)) → (S → List ℕ → S → Type 0) → S → S → Type 0
HasReadFew left handed old new = HasRead left handed old new (λ n. n ≤ 4194304)

-- what the reply to this says of the source, and of the fleet that is kept
abbrev pub IsReplyFor :
    {S : Type 0} → (S → Option (List ℕ)) → (S → List ℕ → S → Type 0) → (S → Type 0) → (S → ℕ) → S → S →
    Request → Reply → Option FleetState → Type 0
IsReplyFor left handed ended faults old new k (Done text) kept =
    IsReadAndJudged left handed ended old new k (Done text) kept
IsReplyFor left handed ended faults old new k (NotRun text) kept =
    IsReadAndJudged left handed ended old new k (NotRun text) kept
IsReplyFor left handed ended faults old new k Usage kept = ⊥
IsReplyFor left handed ended faults old new k (PlanRefused text) kept =
    IsReadAndJudged left handed ended old new k (PlanRefused text) kept
IsReplyFor left handed ended faults old new k ReadFault kept =
    Rose (faults old) (faults new) × HasReadFew left handed old new × (kept ≡ None)
IsReplyFor left handed ended faults old new k (EventLimit text) kept =
    IsReadAndJudged left handed ended old new k (EventLimit text) kept
IsReplyFor left handed ended faults old new k (Unfinished text) kept =
    HasReadFew left handed old new
    × (((text ≡ []) × (kept ≡ None)) ⊎ IsReadAndJudged left handed ended old new k (Unfinished text) kept)
IsReplyFor left handed ended faults old new k (WriteFault text) kept =
    IsReadAndJudged left handed ended old new k (WriteFault text) kept
IsReplyFor left handed ended faults old new k TooLong kept =
    HasRead left handed old new (λ n. n ≡ 4194304 + 1) × (kept ≡ None)

-- where the words have no meaning the reply is the usage; there and for a load nothing is read
abbrev pub IsReplyTo :
    {S : Type 0} → (S → Option (List ℕ)) → (S → List ℕ → S → Type 0) → (S → Type 0) → (S → ℕ) →
    List (List ℕ) → S → S → Reply → Option FleetState → Option Task → Type 0
IsReplyTo left handed ended faults words old new r kept None = (r ≡ Usage) × (new ≡ old) × (kept ≡ None)
IsReplyTo left handed ended faults words old new r kept (Some (Task.Load load)) =
    IsLoadReply (generated load) r kept × (new ≡ old)
IsReplyTo left handed ended faults words old new r kept (Some (Task.Of inquiry)) =
    IsReplyFor left handed ended faults old new (request_for words inquiry) r kept

-- what the reply says of the words, the source, and the fleet that is kept
abbrev pub IsReply :
    {S : Type 0} → (S → Option (List ℕ)) → (S → List ℕ → S → Type 0) → (S → Type 0) → (S → ℕ) →
    List (List ℕ) → S → S → Reply → Option FleetState → Type 0
IsReply left handed ended faults words old new r kept =
    IsReplyTo left handed ended faults words old new r kept (task_of words)

-- Answers

-- a reply that tells how a run went was written as a whole; where the sink failed in it the reply is another one
abbrev pub IsWhole : Reply → Status → Type 0
IsWhole (Done text) s = s ≡ Status.Done
IsWhole (EventLimit text) s = s ≡ Status.EventLimit
IsWhole (Unfinished text) s = s ≡ Status.OutOfMemory
IsWhole (WriteFault text) s = Unit {0}
IsWhole (PlanRefused text) s = Unit {0}
IsWhole (NotRun text) s = Unit {0}
IsWhole Usage s = Unit {0}
IsWhole ReadFault s = Unit {0}
IsWhole TooLong s = Unit {0}

-- where the tables of a run are asked for the reply tells how far they were written; where its trace is and the status
-- is done, what is told is the trace of a run
abbrev pub TellsRun : Request → Reply → Status → Type 0
TellsRun (Run pace) r s = IsWhole r s
TellsRun (Trace pace) r s = s ≡ Status.Done → IsTraceOfRun (text_of_reply r)
TellsRun (Watch pace name) r s = IsWhole r s
TellsRun Check r s = Unit {0}
TellsRun Decode r s = Unit {0}
TellsRun Survey r s = Unit {0}
TellsRun (Ask question from to) r s = Unit {0}

abbrev pub TellsRunFor : List (List ℕ) → Option Task → Reply → Status → Type 0
TellsRunFor words None r s = Unit {0}
TellsRunFor words (Some (Task.Load load)) r s = Unit {0}
TellsRunFor words (Some (Task.Of inquiry)) r s = TellsRun (request_for words inquiry) r s

-- the same of words, whatever they ask for
abbrev pub TellsItsRun : List (List ℕ) → Reply → Status → Type 0
TellsItsRun words r s = TellsRunFor words (task_of words) r s

-- a reply to the bytes was given
abbrev pub IsAnswered : {K : Type 0} → (K → Option (List ℕ)) → (K → ℕ) → Request → List ℕ → K → K →
    Option FleetState → Status → Type 0
IsAnswered written faults k bs old new kept s =
    (r : Reply) × IsJudged k bs r kept × WasGiven written faults old new r s × TellsRun k r s

-- a reply to `load` was given
abbrev pub IsLoadAnswered : {K : Type 0} → (K → Option (List ℕ)) → (K → ℕ) → LoadParts → K → K →
    Option FleetState → Status → Type 0
IsLoadAnswered written faults l old new kept s =
    (r : Reply) × IsLoadReply l r kept × WasGiven written faults old new r s

-- How it ends

-- The plan's script makes such stages, of which the last one is stopped so; with one worker it is the one that the
-- function makes.
pub record RunComesTo (p : Plan) (how : How) (stop : Option NodeId) : Type 0 where
  pub more : List Stage
  pub text : List ℕ
  pub printed : Prints p how (script_of p) new_stage more text
  pub stopped : (end_stage more).stopped ≡ stop
  pub one : how.workers ≡ 1 → (script_end p).stopped ≡ stop

-- the status is one of these, for this plan: done where the run comes to its end, the event limit where it doesn't, or
-- want of memory
abbrev pub IsRunEnd : Plan → How → Status → Type 0
IsRunEnd p how s =
    ((s ≡ Status.Done) × RunComesTo p how None)
    ⊎ (((s ≡ Status.EventLimit) × ((n : NodeId) × RunComesTo p how (Some n)))
    ⊎ (s ≡ Status.OutOfMemory))

-- a run beside which the node of a name is watched ends as without it; where the plan has no such node nothing is run
abbrev pub EndsWatch : Plan → How → Option NodeId → Status → Type 0
EndsWatch p how None s = IsDoneOrOutOfMemory s
EndsWatch p how (Some n) s = IsRunEnd p how s

-- how what is asked for ends on these bytes: `check` and `decode` always, the others for a plan without fault
abbrev pub EndsWell : Request → List ℕ → Status → Type 0
EndsWell (Run pace) bs s = (p : Plan) → PlanOf bs (Ok p) → IsRunEnd p (printing pace.workers) s
EndsWell (Trace pace) bs s = (p : Plan) → PlanOf bs (Ok p) → IsRunEnd p (silent_on pace.workers) s
EndsWell (Watch pace name) bs s =
    (p : Plan) → PlanOf bs (Ok p) → EndsWatch p (printing pace.workers) (plan_node p name) s
EndsWell Check bs s = EndsCheck bs s
EndsWell Decode bs s = IsDoneOrOutOfMemory s
EndsWell Survey bs s = (p : Plan) → PlanOf bs (Ok p) → IsRunEnd p silent s
EndsWell (Ask question from to) bs s = (p : Plan) → PlanOf bs (Ok p) → IsDoneOrOutOfMemory s

-- and where there are more than 4,194,304
abbrev pub EndsTooLong : Status → Type 0
EndsTooLong s = (s ≡ Status.TooLong) ⊎ (s ≡ Status.OutOfMemory)

-- by how many bytes there are
abbrev pub EndsOn : Request → List ℕ → Status → Type 0
EndsOn k bs s = (length bs ≤ 4194304 → EndsWell k bs s) × (4194304 < length bs → EndsTooLong s)

-- words that ask something of an input, and no end that fails
abbrev pub IsComplete :
    {S K : Type 0} → (S → Option (List ℕ)) → (S → ℕ) → (K → ℕ) → List (List ℕ) → S → S → K → K → Status → Type 0
IsComplete left faults sink_faults words old new sink_old sink_new s =
    (inquiry : Inquiry) → task_of words ≡ Some (Task.Of inquiry) → (bs : List ℕ) → left old ≡ Some bs →
    ¬ Rose (faults old) (faults new) → ¬ Rose (sink_faults sink_old) (sink_faults sink_new) →
    EndsOn (request_for words inquiry) bs s

-- Traces that are checked

-- however `check` ends on this text, where no end fails: done, or want of memory, or too long where there are more than
-- 4,194,304 bytes
abbrev pub PassesCheck : List ℕ → Type 0
PassesCheck text =
    (s : Status) → EndsOn Check text s → IsDoneOrOutOfMemory s ⊎ ((s ≡ Status.TooLong) × (4194304 < length text))

-- words that ask for the trace of a run, and done: what was written passes `check`
abbrev pub IsCheckedTrace : {K : Type 0} → (K → Option (List ℕ)) → List (List ℕ) → K → K → Status → Type 0
IsCheckedTrace written words old new s =
    (pace : PaceView) → task_of words ≡ Some (Task.Of (Inquiry.Trace pace)) → s ≡ Status.Done →
    HasWritten (written old) (written new) PassesCheck

-- Loads

-- how a load ends: done where its script comes to the end, the event limit where it doesn't, or want of memory
abbrev pub EndsLoad : LoadParts → Status → Type 0
EndsLoad l s =
    ((s ≡ Status.Done) × ((load_end l).stopped ≡ None))
    ⊎ (((s ≡ Status.EventLimit) × ((n : NodeId) × ((load_end l).stopped ≡ Some n)))
    ⊎ (s ≡ Status.OutOfMemory))

-- words that ask for a load, and no end that fails
abbrev pub IsCompleteLoad : {K : Type 0} → (K → ℕ) → List (List ℕ) → K → K → Status → Type 0
IsCompleteLoad sink_faults words old new s =
    (load : LoadView) → task_of words ≡ Some (Task.Load load) → ¬ Rose (sink_faults old) (sink_faults new) →
    EndsLoad (generated load) s
