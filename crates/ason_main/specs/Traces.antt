-- What the program tells of a run as a whole: its trace.
use Rattle.std.specs.{Prelude.{◌≡◌, ◌<◌, ◌⊎◌, ℕ, List, [], Option, length, take}, Io.KnownBytes.Appends}
use Rattle.trace_text.specs.{declared.checking.Checked.Checked, Checks.IsRunTrace, TraceText.trace_text, Widths.TraceFits, declared.write.TraceWriteFault.TraceWriteFault}
use Rattle.ason_base.specs.{declared.calls.TableRows.TableRows, declared.commands.Disturb.Disturb, declared.commands.Entry.Entry, declared.ids.NodeId.NodeId}
use Rattle.ason_io.specs.Faults.{Rose}
use Rattle.world_rules.specs.Images.{image}
use Rattle.world_merge.specs.Orders.{IsMerge}
use Rattle.round_rules.specs.Records.{Record, log_at, posts_in, world_of}
use Rattle.fleet.specs.Standing.{FleetState, StandsFor}
use Rattle.plan_reader.specs.declared.plan.Plan.{Plan}
use Rattle.script_rules.specs.{ScriptLaws.AreSame, Stages.Stage, Tables.IsTable}
use Rattle.ason_main.specs.{Outputs.{IsRunCutShort, IsOutput, end_stage, silent_on}, Running.HasWrittenPart}

-- The text

-- the trace of the record over the plan, whose bytes these are: its logs and posts in one order, and the table of the
-- mesh to which they lead
pub record IsTraceOfRecord (p : Plan) (bs : List ℕ) (r : Record) (text : List ℕ) : Type 0 where
  pub merge : List Entry
  pub merged : IsMerge (log_at r) (posts_in r) merge
  pub rows : TableRows
  pub table : IsTable p.topology (image (world_of p.topology r)) rows
  pub told : text ≡ trace_text p bs merge rows

-- the same of a trace that was written to its end, so that the numbers in it are those of their types
pub record IsWholeTraceOf (p : Plan) (bs : List ℕ) (r : Record) (text : List ℕ) : Type 0 where
  pub trace : IsTraceOfRecord p bs r text
  pub fits : TraceFits bs trace.merge

-- this is the trace, for whatever record the stations stand
pub record TellsTrace (p : Plan) (bs : List ℕ) (f : FleetState) (text : List ℕ) : Type 0 where
  pub tells : (lines : List Disturb) (r : Record) → StandsFor p.topology lines f r → IsTraceOfRecord p bs r text

pub record TellsWholeTrace (p : Plan) (bs : List ℕ) (f : FleetState) (text : List ℕ) : Type 0 where
  pub tells : (lines : List Disturb) (r : Record) → StandsFor p.topology lines f r → IsWholeTraceOf p bs r text

-- why the trace wasn't written as a whole
abbrev pub StopsTrace : Plan → List ℕ → FleetState → Option (List ℕ) → Option (List ℕ) → ℕ → ℕ →
    TraceWriteFault → Type 0
StopsTrace p bs f old new faults now TraceWriteFault.Failed =
    Rose faults now × HasWrittenPart old new (TellsTrace p bs f)
StopsTrace p bs f old new faults now TraceWriteFault.OutOfMemory =
    Appends old new [] ⊎ HasWrittenPart old new (TellsTrace p bs f)

-- The run and its trace

-- a run that comes to the script's end, of which nothing else is printed, and its trace
pub record IsTraced (p : Plan) (workers : ℕ) (bs : List ℕ) (more : List Stage) (text : List ℕ) : Type 0 where
  pub output : IsOutput p (silent_on workers) more []
  pub trace : IsTraceOfRecord p bs (end_stage more).made text

-- this is a trace of the plan; with one worker there is no other one, and the run is never stopped
pub record IsTheTrace (p : Plan) (workers : ℕ) (bs : List ℕ) (more : List Stage) (text : List ℕ) : Type 0 where
  pub is : IsTraced p workers bs more text
  pub only : workers ≡ 1 → (others : List Stage) (other : List ℕ) → IsTraced p workers bs others other →
      AreSame others more other text
  pub never_stopped : workers ≡ 1 → (n : NodeId) (others : List Stage) →
      ¬ IsRunCutShort p (silent_on workers) n others []

-- a part of the trace, and not all of it
abbrev pub IsPartOfTrace : Plan → ℕ → List ℕ → List Stage → List ℕ → Type 0
IsPartOfTrace p workers bs more text =
    (whole : List ℕ) × (n : ℕ) × IsTheTrace p workers bs more whole × (n < length whole) × (text ≡ take n whole)

-- Checks

-- this is the trace of a run of its plan, with the table to which the run leads
abbrev pub IsTraceOfRun : List ℕ → Type 0
IsTraceOfRun text = (c : Checked) × IsRunTrace text c
