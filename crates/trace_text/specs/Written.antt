-- What stands in a sink of a trace while its entries come.
use Rattle.std.specs.{Prelude.{◌<◌, ◌⊎◌, ℕ, List, [], ◌∷◌, ◌++◌, Option, length, map, take}, Io.KnownBytes.Appends, Iterator.{Drains, Yields}, List.AllByRecursion}
use Rattle.ason_base.specs.{declared.calls.TableRows.TableRows, declared.commands.EntryRef.EntryRef}
use Rattle.world_merge.specs.Lines.{lent_line}
use Rattle.plan_reader.specs.declared.plan.Plan.{Plan}
use Rattle.trace_text.specs.{EntryLines.entry_line, TraceText.{end_text, entries_text, trace_head_text, trace_text}, Widths.{EntryFits, TraceFits}}

-- a first part of the text was written, and not all of it
abbrev pub AppendsPart : Option (List ℕ) → Option (List ℕ) → List ℕ → Type 0
AppendsPart old new text = (n : ℕ) × (n < length text) × Appends old new (take n text)

-- the lines of these entries
abbrev pub entry_lines : Plan → List EntryRef → List ℕ
entry_lines p es = entries_text p (map lent_line es)

-- All items came, and their lines were written. The numbers in them are those of their types.
pub record WroteEntries {I : Type 0} (gives : I → Option EntryRef → I → Type 0) (items : I) (p : Plan)
    (old new : Option (List ℕ)) : Type 0 where
  pub entries : List EntryRef
  pub came : Drains gives items entries
  pub written : Appends old new (entry_lines p entries)
  pub fits : AllByRecursion EntryFits (map lent_line entries)

-- All items came, and the whole trace of them was written. The numbers in it are those of their types.
pub record WroteTrace {I : Type 0} (gives : I → Option EntryRef → I → Type 0) (items : I) (p : Plan)
    (plan_bytes : List ℕ) (rows : TableRows) (old new : Option (List ℕ)) : Type 0 where
  pub entries : List EntryRef
  pub came : Drains gives items entries
  pub written : Appends old new (trace_text p plan_bytes (map lent_line entries) rows)
  pub fits : TraceFits plan_bytes (map lent_line entries)

-- Behind the front the lines of all items that came were written, the last one's in part, and no further item was asked
-- for.
pub record StoppedAtEntry {I : Type 0} (gives : I → Option EntryRef → I → Type 0) (items : I) (p : Plan)
    (front : List ℕ) (old new : Option (List ℕ)) : Type 0 where
  pub before : List EntryRef
  pub last : EntryRef
  pub state : I
  pub came : Yields gives items (before ++ last ∷ []) state
  pub count : ℕ
  pub part : count < length (entry_line p (lent_line last))
  pub written : Appends old new (front ++ entry_lines p before ++ take count (entry_line p (lent_line last)))

-- All items came, and behind the front and their lines the end was written in part.
pub record StoppedAtEnd {I : Type 0} (gives : I → Option EntryRef → I → Type 0) (items : I) (p : Plan)
    (front : List ℕ) (rows : TableRows) (old new : Option (List ℕ)) : Type 0 where
  pub entries : List EntryRef
  pub came : Drains gives items entries
  pub count : ℕ
  pub part : count < length (end_text p rows)
  pub written : Appends old new (front ++ entry_lines p entries ++ take count (end_text p rows))

-- The trace was written in part: its head, and no item was asked for; or up to the line of the last item that came; or
-- all but the end.
abbrev pub WrotePart : {I : Type 0} → (I → Option EntryRef → I → Type 0) → I → Plan → List ℕ → ℕ → TableRows →
    Option (List ℕ) → Option (List ℕ) → Type 0
WrotePart gives items p plan_bytes count rows old new =
    AppendsPart old new (trace_head_text plan_bytes count)
    ⊎ (StoppedAtEntry gives items p (trace_head_text plan_bytes count) old new
    ⊎ StoppedAtEnd gives items p (trace_head_text plan_bytes count) rows old new)
