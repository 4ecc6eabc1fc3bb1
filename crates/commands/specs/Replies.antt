-- What is asked for, the replies to it, and what they say where no fleet is needed.
use Rattle.std.specs.{Prelude.{◌≡◌, ◌<◌, ◌-◌, ◌⊎◌, ℕ, List, [], ◌++◌, Option, Ok, Err, codes, length, take}, Io.KnownBytes.Appends}
use Rattle.ason_io.specs.Faults.{Rose}
use Rattle.plan_reader.specs.{declared.faults.PlanFault.PlanFault, declared.plan.Plan.Plan, Plans.PlanOf, PlanTexts.word_at}
use Rattle.message_text.specs.{DecodeText.IsDecodeText, OneText.IsOne}
use Rattle.table_text.specs.{BestText.IsBestText, FaultText.refused_text, RouteText.route_text}
use Rattle.trace_text.specs.{Checks.{IsChecked, IsNotRun}, TraceRead.IsRefused as IsRefusedTrace, declared.checking.Checked.Checked}
use Rattle.commands.specs.{CheckTexts.{checked_text, not_run_text}, Paces.PaceView, declared.status.Status.Status, declared.tasks.Inquiry.Inquiry, declared.tasks.Question.Question}

-- Requests

-- what is asked of an input
pub data Request : Type 0 where
  Run : (pace : PaceView) → Request  -- to run a plan so, and to tell its tables
  Trace : (pace : PaceView) → Request  -- to run a plan so, and to tell the trace of its run
  Watch : (pace : PaceView) (name : List ℕ) → Request  -- to run it so, and to tell its tables and the view of a node
  Check : Request  -- to tell whether it is the trace of a run
  Decode : Request  -- to tell what messages say
  Survey : Request  -- to tell the survey of a plan's last table
  Ask : (question : Question) (from to : List ℕ) → Request  -- to tell this of the nodes of these names

-- the word behind which so many stand
abbrev pub name_before : List (List ℕ) → ℕ → List ℕ
name_before words behind = word_at words (length words - behind - 1)

-- an inquiry with its words
abbrev pub request_for : List (List ℕ) → Inquiry → Request
request_for words (Inquiry.Run pace) = Run pace
request_for words (Inquiry.Trace pace) = Trace pace
request_for words (Inquiry.Watch pace behind) = Watch pace (name_before words behind)
request_for words Inquiry.Check = Check
request_for words Inquiry.Decode = Decode
request_for words Inquiry.Survey = Survey
request_for words (Inquiry.Ask question) = Ask question (word_at words 1) (word_at words 2)

-- a plan is asked for
abbrev pub TakesPlan : Request → Type 0
TakesPlan (Run pace) = Unit {0}
TakesPlan (Trace pace) = Unit {0}
TakesPlan (Watch pace name) = Unit {0}
TakesPlan Check = ⊥
TakesPlan Decode = ⊥
TakesPlan Survey = Unit {0}
TakesPlan (Ask question from to) = Unit {0}

-- Replies

-- a reply, with what is to be written of it
pub data Reply : Type 0 where
  Done : (text : List ℕ) → Reply
  NotRun : (text : List ℕ) → Reply
  Usage : Reply
  PlanRefused : (text : List ℕ) → Reply
  ReadFault : Reply
  EventLimit : (text : List ℕ) → Reply
  Unfinished : (text : List ℕ) → Reply  -- what is to be written until memory is wanting
  TooLong : Reply
  WriteFault : (text : List ℕ) → Reply  -- what was written of a run until the sink failed

-- the status of a reply that was written as a whole
abbrev pub status_of : Reply → Status
status_of (Done text) = Status.Done
status_of (NotRun text) = Status.NotRun
status_of Usage = Status.Usage
status_of (PlanRefused text) = Status.PlanRefused
status_of ReadFault = Status.ReadFault
status_of (EventLimit text) = Status.EventLimit
status_of (Unfinished text) = Status.OutOfMemory
status_of TooLong = Status.TooLong
status_of (WriteFault text) = Status.WriteFault

-- the exit status of the process
abbrev pub exit_status : Status → ℕ
exit_status Status.Done = 0
exit_status Status.NotRun = 1
exit_status Status.Usage = 2
exit_status Status.PlanRefused = 3
exit_status Status.ReadFault = 4
exit_status Status.WriteFault = 5
exit_status Status.EventLimit = 6
exit_status Status.OutOfMemory = 7
exit_status Status.TooLong = 8

-- what is to be written
abbrev pub text_of_reply : Reply → List ℕ
text_of_reply (Done text) = text
text_of_reply (NotRun text) = text
text_of_reply Usage =
    codes "usage: ason run [--workers N] [--stride T] [--trace | --watch NODE] | check | decode "
    ++ codes "| route FROM TO | load SEED NODES CALLS | best FROM TO | survey\n"
text_of_reply (PlanRefused text) = text
text_of_reply ReadFault = []
text_of_reply (EventLimit text) = text
text_of_reply (Unfinished text) = text
text_of_reply TooLong = codes "refused input too long\n"
text_of_reply (WriteFault text) = text

-- Judging

-- what the reply to `check` says of the bytes that were read to their end
abbrev pub IsCheckReply : List ℕ → Reply → Type 0
IsCheckReply bs (Done text) = (c : Checked) × IsChecked bs c × (text ≡ checked_text c)
IsCheckReply bs (NotRun text) = (i : ℕ) × IsNotRun bs i × (text ≡ not_run_text i)
IsCheckReply bs (PlanRefused text) = (f : PlanFault) × IsRefusedTrace bs f × (text ≡ refused_text f)
IsCheckReply bs (EventLimit text) = ⊥
IsCheckReply bs (Unfinished text) = text ≡ []
IsCheckReply bs Usage = ⊥
IsCheckReply bs ReadFault = ⊥
IsCheckReply bs TooLong = ⊥
IsCheckReply bs (WriteFault text) = ⊥

-- what the reply to `decode` says of them
abbrev pub IsDecodeReply : List ℕ → Reply → Type 0
IsDecodeReply bs (Done text) = IsOne (IsDecodeText bs) text
IsDecodeReply bs (PlanRefused text) = ⊥
IsDecodeReply bs (EventLimit text) = ⊥
IsDecodeReply bs (Unfinished text) = text ≡ []
IsDecodeReply bs (NotRun text) = ⊥
IsDecodeReply bs Usage = ⊥
IsDecodeReply bs ReadFault = ⊥
IsDecodeReply bs TooLong = ⊥
IsDecodeReply bs (WriteFault text) = ⊥

-- what is told of the nodes of these names: the routes, or the best pair, of which there is one text
abbrev pub IsTold : Question → Plan → List ℕ → List ℕ → List ℕ → Type 0
IsTold Question.Route p from to text = text ≡ route_text p from to
IsTold Question.Best p from to text = IsOne (IsBestText p from to) text

-- what the reply to a question about these names says of them
abbrev pub IsAskReply : Question → List ℕ → List ℕ → List ℕ → Reply → Type 0
IsAskReply question from to bs (Done text) = (p : Plan) × PlanOf bs (Ok p) × IsTold question p from to text
IsAskReply question from to bs (PlanRefused text) = (f : PlanFault) × PlanOf bs (Err f) × (text ≡ refused_text f)
IsAskReply question from to bs (EventLimit text) = ⊥
IsAskReply question from to bs (Unfinished text) = text ≡ []
IsAskReply question from to bs (NotRun text) = ⊥
IsAskReply question from to bs Usage = ⊥
IsAskReply question from to bs ReadFault = ⊥
IsAskReply question from to bs TooLong = ⊥
IsAskReply question from to bs (WriteFault text) = ⊥

-- Writing

-- the text was written and the status is this one, or the sink failed and only a part was written
abbrev pub WasTold : {K : Type 0} → (K → Option (List ℕ)) → (K → ℕ) → K → K → List ℕ → Status → Status → Type 0
WasTold written faults old new text status s =
    ((s ≡ status) × Appends (written old) (written new) text)
    ⊎ ((s ≡ Status.WriteFault) × Rose (faults old) (faults new)
    × ((n : ℕ) × (n < length text) × Appends (written old) (written new) (take n text)))

-- or memory was wanting, and nothing was written
abbrev pub WasToldOrNothing : {K : Type 0} → (K → Option (List ℕ)) → (K → ℕ) → K → K → List ℕ → Status → Status → Type 0
WasToldOrNothing written faults old new text status s =
    WasTold written faults old new text status s ⊎ ((s ≡ Status.OutOfMemory) × Appends (written old) (written new) [])

-- the reply's status is answered and its text written, or the sink failed and only a part was written; where the reply
-- tells what was written until the sink failed, it did, and that was written
abbrev pub WasGiven : {K : Type 0} → (K → Option (List ℕ)) → (K → ℕ) → K → K → Reply → Status → Type 0
WasGiven written faults old new (WriteFault text) s =
    (s ≡ Status.WriteFault) × Rose (faults old) (faults new) × Appends (written old) (written new) text
WasGiven written faults old new r s = WasTold written faults old new (text_of_reply r) (status_of r) s

-- a reply of this kind was given
abbrev pub GivesReply : {K : Type 0} → (K → Option (List ℕ)) → (K → ℕ) → (Reply → Type 0) → K → K → Status → Type 0
GivesReply written faults is old new s = (r : Reply) × is r × WasGiven written faults old new r s

-- what `check`, `decode` and a question about two nodes answer of the bytes
abbrev pub IsCheckAnswered : {K : Type 0} → (K → Option (List ℕ)) → (K → ℕ) → List ℕ → K → K → Status → Type 0
IsCheckAnswered written faults bs old new s = GivesReply written faults (IsCheckReply bs) old new s

abbrev pub IsDecodeAnswered : {K : Type 0} → (K → Option (List ℕ)) → (K → ℕ) → List ℕ → K → K → Status → Type 0
IsDecodeAnswered written faults bs old new s = GivesReply written faults (IsDecodeReply bs) old new s

abbrev pub IsAskAnswered : {K : Type 0} → (K → Option (List ℕ)) → (K → ℕ) → Question → List ℕ → List ℕ → List ℕ →
    K → K → Status → Type 0
IsAskAnswered written faults question from to bs old new s =
    GivesReply written faults (IsAskReply question from to bs) old new s

-- the first fault of bytes that are no plan was told, or memory was wanting, and nothing was written
abbrev pub IsPlanRefused : {K : Type 0} → (K → Option (List ℕ)) → (K → ℕ) → List ℕ → K → K → Status → Type 0
IsPlanRefused written faults bs old new s =
    ((f : PlanFault) × PlanOf bs (Err f) × WasToldOrNothing written faults old new (refused_text f) Status.PlanRefused s)
    ⊎ ((s ≡ Status.OutOfMemory) × Appends (written old) (written new) [])

-- How it ends

abbrev pub IsDoneOrOutOfMemory : Status → Type 0
IsDoneOrOutOfMemory s = (s ≡ Status.Done) ⊎ (s ≡ Status.OutOfMemory)

-- done just where the bytes are the trace of a run, and this status just where they are none and their plan has no
-- fault, or want of memory
pub record EndsCheck (bs : List ℕ) (s : Status) : Type 0 where
  pub done : (c : Checked) → IsChecked bs c → IsDoneOrOutOfMemory s
  pub not_run : (i : ℕ) → IsNotRun bs i → (s ≡ Status.NotRun) ⊎ (s ≡ Status.OutOfMemory)
