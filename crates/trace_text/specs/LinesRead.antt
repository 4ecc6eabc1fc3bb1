-- The entries of a trace, up to the first line that is wrong.
use Rattle.std.specs.{Prelude.{ℕ, zero, suc, ◌+◌, ◌==◌, ◌&&◌, ◌||◌, nat_lt, Bool, true, false, List, [], ◌∷◌, ◌++◌, Option, Some, None, if◌then◌else◌}, Borrow.Bor}
use Rattle.ason_base.specs.{declared.commands.Entry.Entry, declared.ids.NodeId.NodeId}
use Rattle.plan_reader.specs.{declared.lines.Line.Line, declared.plan.Plan.Plan}
use Rattle.trace_text.specs.{EntryForms.said_of, Words.parted, declared.reading.Place.Place, declared.reading.ReadLines.ReadLines}

-- Order

-- a post comes before the nodes' entries of its stamp
abbrev pub node_before : Option NodeId → Option NodeId → Bool
node_before None None = false
node_before None (Some n) = true
node_before (Some m) None = false
node_before (Some m) (Some n) = nat_lt m.0 n.0

abbrev pub place_of : Entry → Place
place_of e = record { stamp = e.stamp; node = e.node }

abbrev pub place_before : Place → Place → Bool
place_before a b = nat_lt a.stamp b.stamp || (a.stamp == b.stamp && node_before a.node b.node)

-- it rises above the one before
abbrev pub rises : Option Place → Place → Bool
rises None place = true
rises (Some last) place = place_before last place

-- Lines

-- an entry, the script lines that are left after it, and the bytes behind its line
pub record NextEntry : Type 0 where
  pub entry : Entry
  pub lines : List Line
  pub rest : List ℕ

abbrev pub if_rises : Option Place → List ℕ → Option (Entry × List Line) → Option NextEntry
if_rises last rest None = None
if_rises last rest (Some (e, lines)) =
    if rises last (place_of e) then Some (record { entry = e; lines = lines; rest = rest }) else None

abbrev pub next_in : Plan → List Line → Option Place → Option (List ℕ × List ℕ) → Option NextEntry
next_in p lines last None = None
next_in p lines last (Some (line, rest)) = if_rises last rest (said_of p lines line)

-- the entry of the first line: none where the line is missing, isn't of the form, isn't the right post or doesn't rise
abbrev pub next_entry : Plan → List Line → Option Place → List ℕ → Option NextEntry
next_entry p lines last bytes = next_in p lines last (parted 10 bytes)

-- the entries before the first wrong line, its number, and the bytes from there on
pub record LinesRead : Type 0 where
  pub entries : List Entry
  pub wrong : Option ℕ
  pub rest : List ℕ

abbrev pub entries_behind : List Entry → LinesRead → LinesRead
entries_behind front ls = record { entries = front ++ ls.entries; wrong = ls.wrong; rest = ls.rest }

abbrev pub no_more : Option ℕ → List ℕ → LinesRead
no_more wrong rest = record { entries = []; wrong = wrong; rest = rest }

abbrev pub or_wrong : ℕ → List ℕ → (NextEntry → LinesRead) → Option NextEntry → LinesRead
or_wrong i bytes on None = no_more (Some i) bytes
or_wrong i bytes on (Some next) = entries_behind (next.entry ∷ []) (on next)

-- so many lines, of which the first is that of entry i
abbrev pub lines_from : Plan → List Line → Option Place → ℕ → ℕ → List ℕ → LinesRead
lines_from p lines last zero i bytes = no_more None bytes
lines_from p lines last (suc n) i bytes =
    or_wrong i bytes (λ next. lines_from p next.lines (Some (place_of next.entry)) n (i + 1) next.rest)
    (next_entry p lines last bytes)

-- Views

abbrev pub next_entry_now : Entry × Bor (List Line) × Bor (List ℕ) → NextEntry
next_entry_now next = record { entry = next.0; lines = next.1.now; rest = next.2.now }

abbrev pub lines_now : ReadLines → LinesRead
lines_now read = record { entries = read.entries.items; wrong = read.wrong; rest = read.rest.now }
