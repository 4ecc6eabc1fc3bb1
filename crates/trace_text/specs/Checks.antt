-- Which bytes are the trace of a run of their plan, and which index of others is the first that is wrong.
use Rattle.std.specs.Prelude.{◌≡◌, ◌≢◌, ◌+◌, ◌⊎◌, ℕ, Bool, true, false, List, Option, Some, None, Result, Ok, Err, length}
use Rattle.ason_base.specs.{declared.calls.TableRows.TableRows, declared.commands.Entry.Entry, declared.commands.Event.Event}
use Rattle.plan_reader.specs.declared.plan.Plan.{Plan}
use Rattle.script_rules.specs.Tables.{IsTable}
use Rattle.table_text.specs.TableText.{table_text}
use Rattle.world_core.specs.{Migration.AreKept, Replays.IsFirstDisabled, declared.replays.ReplayError.ReplayError}
use Rattle.world_core.specs.declared.replays.ReplayError.TheVariants as replays
use Rattle.world_merge.specs.Merges.{events_of}
use Rattle.world_rules.specs.{Images.image, WorldRuns.{IsWorldRun, world_after}, Worlds.world_start}
use Rattle.trace_text.specs.{LinesRead.LinesRead, RoundTrip.told_trace, TraceForms.{TraceHead, head_of, is_version_2, lines_behind, of_lines}, TraceRead.{IsPlanIn, IsRefused, IsTraceOf}, declared.checking.Checked.Checked, declared.checking.FoundRun.FoundRun, declared.read.Trace.Trace, declared.read.TraceFault.TraceFault, declared.read.TraceFault.TheVariants.{NotRun, Plan as RefusedPlan, OutOfMemory}}

-- Runs

-- the events are a run over the plan's network
abbrev pub AreRun : Plan → List Event → Type 0
AreRun p events = IsWorldRun p.topology (world_start p.topology) events

-- the rows are the table of the world to which the events lead
abbrev pub IsLastTable : Plan → List Event → TableRows → Type 0
IsLastTable p events rows = IsTable p.topology (image (world_after p.topology (world_start p.topology) events)) rows

-- of these events over the plan's network these are kept, and so many are left out
abbrev pub AreKeptOf : Plan → List Event → List Event → ℕ → Type 0
AreKeptOf p events run left_out = AreKept p.topology (world_start p.topology) events run left_out

-- a trace of version 1
abbrev pub first_trace : Plan → List ℕ → List Entry → List ℕ → Trace
first_trace p plan_bytes es text =
    record { version = 1; plan_bytes = plan_bytes; plan = p; entries = es; table = text }

-- The bytes are a trace of version 2 of a run of the plan in which so many events happen, with the table of these rows,
-- to which the run leads. None is left out.
pub record IsRunTrace (bytes : List ℕ) (checked : Checked) : Type 0 where
  pub version : checked.version ≡ 2
  pub plan_bytes : List ℕ
  pub entries : List Entry
  pub trace : IsTraceOf bytes (told_trace checked.plan plan_bytes entries checked.rows)
  pub run : AreRun checked.plan (events_of entries)
  pub table : IsLastTable checked.plan (events_of entries) checked.rows
  pub events : checked.events ≡ length entries
  pub left_out : checked.left_out ≡ 0

-- The bytes are a trace of version 1 of the plan. Of its events just those are kept that are enabled after the ones
-- kept before them, so many, and so many are left out. What is kept leads to the table of these rows, whatever lines
-- stand for it in the trace.
pub record IsMigratedTrace (bytes : List ℕ) (checked : Checked) : Type 0 where
  pub version : checked.version ≡ 1
  pub plan_bytes : List ℕ
  pub entries : List Entry
  pub text : List ℕ
  pub trace : IsTraceOf bytes (first_trace checked.plan plan_bytes entries text)
  pub run : List Event
  pub kept : AreKeptOf checked.plan (events_of entries) run checked.left_out
  pub table : IsLastTable checked.plan run checked.rows
  pub events : checked.events ≡ length run

abbrev pub IsChecked : List ℕ → Checked → Type 0
IsChecked bytes checked = IsRunTrace bytes checked ⊎ IsMigratedTrace bytes checked

-- The first index that is wrong

-- this text is of no table to which the entries lead
pub record IsOtherTable (p : Plan) (es : List Entry) (text : List ℕ) : Type 0 where
  pub rows : TableRows
  pub table : IsLastTable p (events_of es) rows
  pub other : text ≢ table_text p rows

-- Of entries that are a run: the first index that the form has wrong; or, of a form that is right, the one behind the
-- entries, where the table is another one.
abbrev pub IsWrongEnd : Plan → Result (List Entry × List ℕ) ℕ → ℕ → Type 0
IsWrongEnd p (Err k) i = i ≡ k
IsWrongEnd p (Ok (es, table)) i = (i ≡ length es + 1) × IsOtherTable p es table

-- Of the lines behind a plan, in version 2: the number of the first event that isn't enabled. Where each is, up to
-- the first line that the form has wrong, what is wrong then. In version 1 what the form has wrong.
abbrev pub IsWrongLine : Bool → Plan → LinesRead → ℕ → Type 0
IsWrongLine true p ls i =
    IsFirstDisabled p.topology (events_of ls.entries) i
    ⊎ (AreRun p (events_of ls.entries) × IsWrongEnd p (of_lines ls) i)
IsWrongLine false p ls i = of_lines ls ≡ Err i

-- 0 where no line tells how many entries there are
abbrev pub IsWrongAfter : Bool → Plan → Option LinesRead → ℕ → Type 0
IsWrongAfter second p None i = i ≡ 0
IsWrongAfter second p (Some ls) i = IsWrongLine second p ls i

-- Behind the head of a plan without fault this index is the first that is wrong.
pub record IsNoRunBehind (bytes : List ℕ) (i : ℕ) : Type 0 where
  pub head : TraceHead
  pub plan : Plan
  pub begun : head_of bytes ≡ Some head
  pub spelled : IsPlanIn head.version head.plan (Ok plan)
  pub wrong : IsWrongAfter (is_version_2 head.version) plan (lines_behind plan head.rest) i

-- This index is the first that is wrong: 0 where there is no head.
abbrev pub IsNotRun : List ℕ → ℕ → Type 0
IsNotRun bytes i = ((head_of bytes ≡ None) × (i ≡ 0)) ⊎ IsNoRunBehind bytes i

-- what `check` answers; want of memory may come at any time
abbrev pub ChecksAs : List ℕ → Result Checked TraceFault → Type 0
ChecksAs bytes (Ok checked) = IsChecked bytes checked
ChecksAs bytes (Err (NotRun i)) = IsNotRun bytes i
ChecksAs bytes (Err (RefusedPlan fault)) = IsRefused bytes fault
ChecksAs bytes (Err OutOfMemory) = Unit {0}

-- Parts

-- the fault of lines: an index that is wrong so, or want of memory
abbrev pub IsFaultBy : (ℕ → Type 0) → TraceFault → Type 0
IsFaultBy Wrong (NotRun i) = Wrong i
IsFaultBy Wrong (RefusedPlan fault) = ⊥
IsFaultBy Wrong OutOfMemory = Unit {0}

-- a fault of a replay as that of a trace
abbrev pub replay_fault : ReplayError → TraceFault
replay_fault (replays.NotRun i) = NotRun i
replay_fault replays.OutOfMemory = OutOfMemory

abbrev pub run_found : Checked → FoundRun
run_found checked = record { events = checked.events; left_out = checked.left_out; rows = checked.rows }

-- what is checked of lines of version 2: they are of the form, with this table, and so many events are a run that
-- leads to it
pub record AreChecked (p : Plan) (ls : LinesRead) (found : FoundRun) : Type 0 where
  pub form : of_lines ls ≡ Ok (ls.entries, table_text p found.rows)
  pub run : AreRun p (events_of ls.entries)
  pub table : IsLastTable p (events_of ls.entries) found.rows
  pub events : found.events ≡ length ls.entries
  pub left_out : found.left_out ≡ 0

-- of lines of version 1: they are of the form, so many events are kept, so many left out, and what is kept leads to
-- this table
pub record AreMigrated (p : Plan) (ls : LinesRead) (found : FoundRun) : Type 0 where
  pub text : List ℕ
  pub form : of_lines ls ≡ Ok (ls.entries, text)
  pub run : List Event
  pub kept : AreKeptOf p (events_of ls.entries) run found.left_out
  pub table : IsLastTable p run found.rows
  pub events : found.events ≡ length run

abbrev pub IsFoundRun : Bool → Plan → LinesRead → FoundRun → Type 0
IsFoundRun true p ls found = AreChecked p ls found
IsFoundRun false p ls found = AreMigrated p ls found

-- the same of what is behind a plan: there are lines
abbrev pub IsFoundAfter : Bool → Plan → Option LinesRead → FoundRun → Type 0
IsFoundAfter second p None found = ⊥
IsFoundAfter second p (Some ls) found = IsFoundRun second p ls found
