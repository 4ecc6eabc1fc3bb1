-- What plan bytes spell, or their first fault.
use Rattle.std.specs.{Prelude.{◌≡◌, ◌<◌, ◌≤◌, ◌⊎◌, ℕ, All, fold, length, true, false, List, [], ◌∷◌, ◌++◌, codes, Option, Some, None, Result, Ok, Err, Bool}, Str.IsUtf8}
use Rattle.toml.specs.{Data.{Data, Members, table}, Parse.parse_document}
use Rattle.ason_base.specs.{Network.{Network, is_channel}, declared.network.LinkSpec.LinkSpec, declared.ids.CallNo.CallNo, declared.commands.Command.Command, declared.commands.Command.TheVariants.{Setup, Release, Protect, Retry, Revert, Fail, Repair}, declared.commands.Disturb.Disturb, declared.limits.TheConstants.MOST_AHEAD}
use Rattle.flood.specs.Frames.{SpellsNothing}
use Rattle.mesh_rules.specs.Commands.{is_valid, is_again}
use Rattle.plan_reader.specs.{declared.faults.PlanEntry.PlanEntry, declared.faults.PlanEntry.TheVariants.{Toml, Top, Node, Link}, declared.faults.PlanError.PlanError, declared.faults.PlanError.TheVariants.{Fault, OutOfMemory}, declared.faults.PlanFault.PlanFault, declared.faults.PlanKind.PlanKind, declared.faults.PlanKind.TheVariants.Syntax, declared.lines.Line.Line, declared.lines.Line.TheVariants.{Post, Noise, Settle, Wait, Show}, declared.plan.Plan.Plan, declared.script.Script.Script, Entries.{AndThen, AreRead, and_then, read_all}, PlanTables.{NodeList, elements_at, no_nodes, ticks_of, top_kind, with_plan_link, with_plan_node}, PlanScript.{AddsLine, no_script}}
use Rattle.plan_reader.specs.declared.lines.Line.TheVariants as said

-- The parts of a plan's table, each read onto those before it, or the first fault

abbrev pub plan_nodes : List Data → Result NodeList PlanFault
plan_nodes ds = read_all Node with_plan_node 1 no_nodes ds

abbrev pub plan_links : NodeList → List Data → Result (List LinkSpec) PlanFault
plan_links known ds = read_all Link (with_plan_link known) 1 [] ds

-- where the script's setups may be two-way, or may not
abbrev pub IsScriptOf : Bool → Network → List (List ℕ) → List Data → Result Script PlanFault → Type 0
IsScriptOf two_way t names ds r = AreRead PlanEntry.Script (AddsLine two_way t names) 1 no_script ds r

abbrev pub network_of : ℕ → NodeList → List LinkSpec → Network
network_of wait known links = record { wait = wait; nodes = known.nodes; links = links }

-- what a table without fault says
abbrev pub plan_with : ℕ → NodeList → List LinkSpec → Script → Plan
plan_with wait known links script = record {
  topology = network_of wait known links;
  node_names = known.names;
  call_names = script.calls.names;
  lines = script.lines;
}

abbrev pub plan_over : Data → NodeList → List LinkSpec → Result Script PlanFault → Result Plan PlanFault
plan_over d known links script = and_then script (λ s. Ok (plan_with (ticks_of d) known links s))

-- the plan of these nodes and links with the script of the table, or the script's first fault
abbrev pub IsPlanOver : Bool → Data → NodeList → List LinkSpec → Result Plan PlanFault → Type 0
IsPlanOver two_way d known links r =
    (script : Result Script PlanFault)
    × IsScriptOf two_way (network_of (ticks_of d) known links) known.names (elements_at (codes "script") d) script
    × (r ≡ plan_over d known links script)

-- the plan of the nodes, the links and the script of the table, or their first fault
abbrev pub IsPlanOfParts : Bool → Data → Result Plan PlanFault → Type 0
IsPlanOfParts two_way d r =
    AndThen (plan_nodes (elements_at (codes "node") d))
    (λ known. AndThen (plan_links known (elements_at (codes "link") d)) (IsPlanOver two_way d known)) r

abbrev pub UnlessFault : Option PlanKind → (Result Plan PlanFault → Type 0) → Result Plan PlanFault → Type 0
UnlessFault None Is r = Is r
UnlessFault (Some kind) Is r = r ≡ Err (record { entry = Top; kind = kind })

-- the plan, or its first fault: the top, then the nodes, the links and the script lines, each in order
abbrev pub IsPlanOf : Bool → Data → Result Plan PlanFault → Type 0
IsPlanOf two_way d r = UnlessFault (top_kind d) (IsPlanOfParts two_way d) r

abbrev pub not_toml : PlanFault
not_toml = record { entry = Toml; kind = Syntax }

-- The bytes are UTF-8 and a TOML document with that plan or first fault; or they are none, and that is the fault. Where
-- setups may not be two-way, no line has the word `both`.
abbrev pub IsSpelled : Bool → List ℕ → Result Plan PlanFault → Type 0
IsSpelled two_way bs r =
    ((ms : Members) × IsUtf8 bs × (parse_document bs ≡ Some ms) × IsPlanOf two_way (table ms) r)
    ⊎ ((IsUtf8 bs → parse_document bs ≡ None) × (r ≡ Err not_toml))

abbrev pub PlanOf : List ℕ → Result Plan PlanFault → Type 0
PlanOf bs r = IsSpelled true bs r

-- what `read_plan` and `read_plan_1` answer; want of memory may come at any time
abbrev pub Answers : Bool → List ℕ → Result Plan PlanError → Type 0
Answers two_way bs (Ok p) = IsSpelled two_way bs (Ok p)
Answers two_way bs (Err (Fault f)) = IsSpelled two_way bs (Err f)
Answers two_way bs (Err OutOfMemory) = Unit {0}

-- Lines that can be posted

-- the call numbers of all setups after a post
abbrev pub calls_after : List CallNo → Command → List CallNo
calls_after before (Setup n from to protected both via backup) = before ++ n ∷ []
calls_after before (Release n from) = before
calls_after before (Protect n from) = before
calls_after before (Retry n from) = before
calls_after before (Revert n from) = before
calls_after before (Fail g) = before
calls_after before (Repair g) = before

-- the call numbers of all setups after a line
abbrev pub calls_after_line : List CallNo → Line → List CallNo
calls_after_line before (Post c) = calls_after before c
calls_after_line before (said.Disturb d) = before
calls_after_line before (Noise from to bytes) = before
calls_after_line before (Settle r) = before
calls_after_line before (Wait r) = before
calls_after_line before Show = before

abbrev pub calls_after_lines : List CallNo → List Line → List CallNo
calls_after_lines before lines = fold calls_after_line before lines

-- Each node and each call has its name: there are as many names as nodes, and as many as setups, whose numbers are
-- below that.
pub record HasNames (p : Plan) : Type 0 where
  pub nodes : length p.node_names ≡ length p.topology.nodes
  pub calls : length p.call_names ≡ length (calls_after_lines [] p.lines)
  pub numbers : All (λ c. c.0 < length p.call_names) (calls_after_lines [] p.lines)

-- the line names the k-th frame from one neighbour to the other, k from 1 to 65,535
abbrev pub NamesFrame : Network → Disturb → Type 0
NamesFrame t d = (is_channel t d.from d.to ≡ true) × (1 ≤ d.k) × (d.k ≤ MOST_AHEAD)

-- The command of the line, if it posts one, is valid and no setup of a call number that was posted before. If it is
-- about frames, these go from one neighbour to the other, and noise spells nothing.
abbrev pub IsPostable : Network → List CallNo → Line → Type 0
IsPostable t before (Post c) = (is_valid t c ≡ true) × (is_again before c ≡ false)
IsPostable t before (said.Disturb d) = NamesFrame t d
IsPostable t before (Noise from to bytes) = (is_channel t from to ≡ true) × SpellsNothing bytes
IsPostable t before (Settle r) = Unit {0}
IsPostable t before (Wait r) = Unit {0}
IsPostable t before Show = Unit {0}

abbrev pub ArePostable : Network → List CallNo → List Line → Type 0
ArePostable t before [] = Unit {0}
ArePostable t before (line ∷ lines) = IsPostable t before line × ArePostable t (calls_after_line before line) lines
