-- What is written of a trace is read.
use Rattle.std.specs.{Prelude.{◌≡◌, ◌<◌, ◌^◌, ◌==◌, ℕ, All, Bool, true, not, List, [], ◌∷◌, ◌++◌, Option, Some, None, Ok, length}, Fmt.decimal, List.list_all}
use Rattle.ason_base.specs.{declared.calls.TableRows.TableRows, declared.commands.Entry.Entry, declared.commands.Event.Event, declared.commands.Event.TheVariants.{Deliver, Noise, Tick, Desk, Post}, declared.ids.NodeId.NodeId}
use Rattle.plan_reader.specs.{declared.lines.Line.Line, declared.plan.Plan.Plan, Names.is_name, Plans.PlanOf}
use Rattle.table_text.specs.TableText.{node_name, table_text}
use Rattle.trace_text.specs.{CommandText.command_text, EntryForms.{next_post, node_of, said_of}, EntryLines.{event_text, node_text}, LinesRead.{entries_behind, lines_from, no_more, place_of, rises}, TraceRead.IsTraceOf, TraceText.{entries_text, trace_text}, declared.read.Trace.Trace, declared.reading.Place.Place}

-- no byte of the text is this one
abbrev pub lacks_byte : ℕ → List ℕ → Bool
lacks_byte byte text = list_all (λ b. not (b == byte)) text

-- The node has a name in the plan, by which it is found.
pub record IsNodeNamed (p : Plan) (n : NodeId) : Type 0 where
  pub found : node_of p (node_name p n) ≡ Some n
  pub name : is_name (node_name p n) ≡ true

-- An entry of the node, or a post, says this event, and leaves these script lines. The nodes have their names, numbers
-- are below 2^64, bytes below 256, and the command is the next that a line posts, and has a text of one line.
abbrev pub Says : Plan → List Line → Option NodeId → Event → List Line → Type 0
Says p lines (Some n) (Deliver to from number) left = (to ≡ n) × IsNodeNamed p from × (number < 2 ^ 64) × (left ≡ lines)
Says p lines (Some n) (Noise to from bytes) left = (to ≡ n) × IsNodeNamed p from × All (λ b. b < 256) bytes
    × (left ≡ lines)
Says p lines (Some n) (Tick node) left = (node ≡ n) × (left ≡ lines)
Says p lines (Some n) (Desk node) left = (node ≡ n) × (left ≡ lines)
Says p lines (Some n) (Post c) left = ⊥
Says p lines None (Post c) left = (next_post lines ≡ Some (c, left)) × (lacks_byte 10 (command_text p c) ≡ true)
Says p lines None (Deliver to from number) left = ⊥
Says p lines None (Noise to from bytes) left = ⊥
Says p lines None (Tick node) left = ⊥
Says p lines None (Desk node) left = ⊥

abbrev pub HasItsName : Plan → Option NodeId → Type 0
HasItsName p None = Unit {0}
HasItsName p (Some n) = IsNodeNamed p n

-- The entry can be told where these script lines are left, and it leaves those.
pub record CanBeTold (p : Plan) (lines : List Line) (e : Entry) (left : List Line) : Type 0 where
  pub stamp : e.stamp < 2 ^ 64
  pub node : HasItsName p e.node
  pub says : Says p lines e.node e.event left

-- the line without its newline
abbrev pub line_text : Plan → Entry → List ℕ
line_text p e = decimal e.stamp ++ 32 ∷ (node_text p e.node ++ 32 ∷ event_text p e.event)

-- the line of an entry that can be told says this entry
abbrev pub EveryLineIsRead : Type 0
EveryLineIsRead =
    (p : Plan) (lines : List Line) (e : Entry) (left : List Line) → CanBeTold p lines e left →
    said_of p lines (line_text p e) ≡ Some (e, left)

-- the entries rise from here on, and each can be told after those before it
abbrev pub CanAllBeTold : Plan → List Line → Option Place → List Entry → Type 0
CanAllBeTold p lines last [] = Unit {0}
CanAllBeTold p lines last (e ∷ es) =
    (left : List Line) × CanBeTold p lines e left × (rises last (place_of e) ≡ true)
    × CanAllBeTold p left (Some (place_of e)) es

-- the lines of such entries are read as these entries
abbrev pub AllLinesAreRead : Type 0
AllLinesAreRead =
    (p : Plan) (lines : List Line) (last : Option Place) (es : List Entry) (i : ℕ) (rest : List ℕ) →
    CanAllBeTold p lines last es →
    lines_from p lines last (length es) i (entries_text p es ++ rest) ≡ entries_behind es (no_more None rest)

abbrev pub told_trace : Plan → List ℕ → List Entry → TableRows → Trace
told_trace p plan_bytes es rows =
    record { version = 2; plan_bytes = plan_bytes; plan = p; entries = es; table = table_text p rows }

-- The trace of such entries over a plan is read as version 2, with the plan's bytes, the plan, the entries and the
-- text of the table.
abbrev pub EveryTraceIsRead : Type 0
EveryTraceIsRead =
    (p : Plan) (plan_bytes : List ℕ) (es : List Entry) (rows : TableRows) → PlanOf plan_bytes (Ok p) →
    length plan_bytes < 2 ^ 64 → length es < 2 ^ 64 → CanAllBeTold p p.lines None es →
    IsTraceOf (trace_text p plan_bytes es rows) (told_trace p plan_bytes es rows)
