-- The text of a trace.
use Rattle.std.specs.{Prelude.{ℕ, List, ◌++◌, codes, length}, List.flat_map, Fmt.decimal}
use Rattle.ason_base.specs.{declared.calls.TableRows.TableRows, declared.commands.Entry.Entry}
use Rattle.plan_reader.specs.declared.plan.Plan.{Plan}
use Rattle.table_text.specs.TableText.{table_text}
use Rattle.trace_text.specs.EntryLines.{entry_line}

-- the version, which is 2, and how many bytes the plan has
abbrev pub plan_line : ℕ → List ℕ
plan_line bytes = codes "ason-trace 2\nplan " ++ decimal bytes ++ codes "\n"

-- behind the plan's bytes: how many events there are
abbrev pub events_line : ℕ → List ℕ
events_line events = codes "\nevents " ++ decimal events ++ codes "\n"

-- the plan's bytes between these lines
abbrev pub trace_head_text : List ℕ → ℕ → List ℕ
trace_head_text plan_bytes events = plan_line (length plan_bytes) ++ plan_bytes ++ events_line events

-- a line an entry
abbrev pub entries_text : Plan → List Entry → List ℕ
entries_text p es = flat_map (entry_line p) es

-- the table between its lines
abbrev pub end_text : Plan → TableRows → List ℕ
end_text p rows = codes "table\n" ++ table_text p rows ++ codes "end\n"

-- the head, the entries and the table
abbrev pub trace_text : Plan → List ℕ → List Entry → TableRows → List ℕ
trace_text p plan_bytes es rows = trace_head_text plan_bytes (length es) ++ entries_text p es ++ end_text p rows
