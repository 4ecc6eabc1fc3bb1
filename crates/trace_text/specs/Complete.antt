-- What is written of a run is checked to be that run.
use Rattle.std.specs.{Prelude.{◌≡◌, ◌⊎◌, ℕ, true, List, [], ◌∷◌, Result, Ok, Err, length}, List.flat_map}
use mathlib.Core.List.{IsPrefix}
use Rattle.ason_base.specs.{Network.is_node_id, declared.calls.TableRows.TableRows, declared.commands.Command.Command, declared.commands.Entry.Entry, declared.commands.Event.Event, declared.ids.NodeId.NodeId}
use Rattle.ason_base.specs.declared.commands.Event.TheVariants as events
use Rattle.plan_reader.specs.{declared.lines.Line.Line, declared.lines.Line.TheVariants.{Post, Disturb, Noise, Settle, Wait, Show}, declared.plan.Plan.Plan, Plans.PlanOf}
use Rattle.round_rules.specs.{Records.{Record, log_at, posts_in, world_of}, PossibleRecords.IsRecord}
use Rattle.script_rules.specs.{ScriptLaws.ScriptRoundLaws, Outputs.{How, Prints, script_of}, Stages.{Stage, last_stage_of, new_stage}, Tables.IsTable}
use Rattle.world_merge.specs.Orders.{IsMerge}
use Rattle.world_rules.specs.Images.{image}
use Rattle.trace_text.specs.{Checks.{ChecksAs, IsRunTrace}, RoundTrip.IsNodeNamed, TraceText.trace_text, Widths.TraceFits, declared.checking.Checked.Checked, declared.read.TraceFault.TraceFault, declared.read.TraceFault.TheVariants.OutOfMemory}

-- One answer

-- bytes are checked with one answer alone, want of memory aside
abbrev pub EveryCheckIsOne : Type 0
EveryCheckIsOne =
    (bytes : List ℕ) (r s : Result Checked TraceFault) → ChecksAs bytes r → ChecksAs bytes s →
    (r ≡ Err OutOfMemory) ⊎ ((s ≡ Err OutOfMemory) ⊎ (r ≡ s))

-- Names

-- each node of a plan that bytes spell has a name, by which it is found
abbrev pub EveryNodeIsNamed : Type 0
EveryNodeIsNamed =
    (bs : List ℕ) (p : Plan) (n : NodeId) → PlanOf bs (Ok p) → is_node_id p.topology.nodes n ≡ true → IsNodeNamed p n

-- Posts

-- the commands that the lines of a script post, one after the other
abbrev pub commands_of : List Line → List Command
commands_of [] = []
commands_of (Post c ∷ lines) = c ∷ commands_of lines
commands_of (Disturb d ∷ lines) = commands_of lines
commands_of (Noise from to bytes ∷ lines) = commands_of lines
commands_of (Settle r ∷ lines) = commands_of lines
commands_of (Wait n ∷ lines) = commands_of lines
commands_of (Show ∷ lines) = commands_of lines

abbrev pub command_in : Event → List Command
command_in (events.Deliver to from number) = []
command_in (events.Noise to from bytes) = []
command_in (events.Tick n) = []
command_in (events.Desk n) = []
command_in (events.Post c) = c ∷ []

-- the commands that were posted
abbrev pub posted_in : List Entry → List Command
posted_in es = flat_map (λ e. command_in e.event) es

-- what a plan's script has posted are the first commands of its lines
abbrev pub EveryScriptPosts : Type 0
EveryScriptPosts =
    ScriptRoundLaws → (p : Plan) (how : How) (more : List Stage) (text : List ℕ) →
    Prints p how (script_of p) new_stage more text →
    IsPrefix (posted_in (posts_in (last_stage_of new_stage more).made)) (commands_of p.lines)

-- The trace of a record

-- The entries are the merge of what the nodes of a plan did and of what was posted. The first commands of the plan's
-- lines were posted, in their order, and the rows are the table of the world to which all this leads.
pub record IsMadeOf (p : Plan) (plan_bytes : List ℕ) (r : Record) (es : List Entry) (rows : TableRows) : Type 0 where
  pub spelled : PlanOf plan_bytes (Ok p)
  pub possible : IsRecord p.topology r
  pub merge : IsMerge (log_at r) (posts_in r) es
  pub posts : IsPrefix (posted_in (posts_in r)) (commands_of p.lines)
  pub table : IsTable p.topology (image (world_of p.topology r)) rows

-- the text of its trace is that of this run, with this table, and nothing is left out
abbrev pub EveryRunIsChecked : Type 0
EveryRunIsChecked =
    (p : Plan) (plan_bytes : List ℕ) (r : Record) (es : List Entry) (rows : TableRows) →
    IsMadeOf p plan_bytes r es rows → TraceFits plan_bytes es →
    IsRunTrace (trace_text p plan_bytes es rows)
    (record { version = 2; events = length es; left_out = 0; plan = p; rows = rows })
