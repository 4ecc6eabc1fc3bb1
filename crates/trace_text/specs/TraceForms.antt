-- The parts of a trace around its entries, and what is wrong first.
use Rattle.std.specs.Prelude.{ℕ, ◌+◌, ◌-◌, ◌==◌, ◌&&◌, ◌||◌, nat_le, Bool, List, [], ◌∷◌, Option, Some, None, Result, Ok, Err, bytes_eq, codes, drop, length, take, if◌then◌else◌}
use Rattle.ason_base.specs.{declared.commands.Entry.Entry, declared.numerals.NumeralFault.NumeralFault, declared.numerals.NumeralFault.TheVariants.{NoNumber, OutOfRange}, Numerals.number_within}
use Rattle.plan_reader.specs.declared.plan.Plan.{Plan}
use Rattle.trace_text.specs.{EntryForms.stamp_of, LinesRead.{LinesRead, lines_from}, Words.{behind_word, parted}, declared.forms.Form.Form, declared.forms.Head.Head}

-- Head

-- so many bytes, and what is behind the newline after them
abbrev pub plan_within : List ℕ → Option ℕ → Option (List ℕ × List ℕ)
plan_within bytes None = None
plan_within bytes (Some n) =
    if bytes_eq (take 1 (drop n bytes)) (10 ∷ []) then Some (take n bytes, drop (n + 1) bytes) else None

abbrev pub number_in : Option (List ℕ) → Option ℕ
number_in None = None
number_in (Some word) = stamp_of word

abbrev pub plan_in : Option (List ℕ × List ℕ) → Option (List ℕ × List ℕ)
plan_in None = None
plan_in (Some (line, rest)) = plan_within rest (number_in (behind_word (codes "plan ") line))

-- the version, the plan's bytes, and what is behind the newline after them
pub record TraceHead : Type 0 where
  pub version : ℕ
  pub plan : List ℕ
  pub rest : List ℕ

abbrev pub version_of : List ℕ → Option ℕ
version_of line =
    if bytes_eq line (codes "ason-trace 2") then Some 2
    else if bytes_eq line (codes "ason-trace 1") then Some 1
    else None

abbrev pub with_version : ℕ → Option (List ℕ × List ℕ) → Option TraceHead
with_version version None = None
with_version version (Some (plan, rest)) = Some (record { version = version; plan = plan; rest = rest })

abbrev pub if_version : List ℕ → Option ℕ → Option TraceHead
if_version rest None = None
if_version rest (Some version) = with_version version (plan_in (parted 10 rest))

abbrev pub head_in : Option (List ℕ × List ℕ) → Option TraceHead
head_in None = None
head_in (Some (line, rest)) = if_version rest (version_of line)

-- the head of a trace of version 1 or 2: the two head lines, so many bytes and a newline
abbrev pub head_of : List ℕ → Option TraceHead
head_of bytes = head_in (parted 10 bytes)

abbrev pub is_version_2 : ℕ → Bool
is_version_2 version = version == 2

-- Entries

-- a count above all that could be there counts as the greatest
abbrev pub count_read : Result ℕ NumeralFault → Option ℕ
count_read (Ok n) = Some n
count_read (Err NoNumber) = None
count_read (Err OutOfRange) = Some 18446744073709551615

abbrev pub count_in : Option (List ℕ) → Option ℕ
count_in None = None
count_in (Some word) = count_read (number_within 0 18446744073709551615 word)

-- End

-- what is before the line `end` at the very end
abbrev pub table_in : Option (List ℕ) → Option (List ℕ)
table_in None = None
table_in (Some body) =
    if nat_le 4 (length body) && (bytes_eq (drop (length body - 4) body) (codes "end\n")
    && (length body == 4 || bytes_eq (take 1 (drop (length body - 5) body)) (10 ∷ [])))
    then Some (take (length body - 4) body)
    else None

-- the table, which stands between the lines `table` and `end`, and nothing after these
abbrev pub table_of : List ℕ → Option (List ℕ)
table_of bytes = table_in (behind_word (codes "table\n") bytes)

-- What is behind the plan

abbrev pub with_table : List Entry → Option (List ℕ) → Result (List Entry × List ℕ) ℕ
with_table entries None = Err (length entries + 1)
with_table entries (Some table) = Ok (entries, table)

abbrev pub or_index : List Entry → Option ℕ → List ℕ → Result (List Entry × List ℕ) ℕ
or_index entries (Some i) rest = Err i
or_index entries None rest = with_table entries (table_of rest)

abbrev pub of_lines : LinesRead → Result (List Entry × List ℕ) ℕ
of_lines ls = or_index ls.entries ls.wrong ls.rest

-- so many lines, where a number says how many
abbrev pub lines_counted : Plan → List ℕ → Option ℕ → Option LinesRead
lines_counted p body None = None
lines_counted p body (Some count) = Some (lines_from p p.lines None count 1 body)

abbrev pub lines_read_in : Plan → Option (List ℕ × List ℕ) → Option LinesRead
lines_read_in p None = None
lines_read_in p (Some (line, body)) = lines_counted p body (count_in (behind_word (codes "events ") line))

-- The entries behind a plan, up to the first line that is wrong; none where no line tells how many there are.
abbrev pub lines_behind : Plan → List ℕ → Option LinesRead
lines_behind p rest = lines_read_in p (parted 10 rest)

abbrev pub or_uncounted : Option LinesRead → Result (List Entry × List ℕ) ℕ
or_uncounted None = Err 0
or_uncounted (Some ls) = of_lines ls

-- The entries and the table behind a plan, or the first index that is wrong: 0 for the line that tells how many entries
-- there are, the entry's number from 1, or one more than there are for what follows them.
abbrev pub form_of : Plan → List ℕ → Result (List Entry × List ℕ) ℕ
form_of p rest = or_uncounted (lines_behind p rest)

-- Views

abbrev pub head_now : Head → TraceHead
head_now head = record { version = head.version; plan = head.plan.now; rest = head.rest.now }

abbrev pub form_now : Result Form ℕ → Result (List Entry × List ℕ) ℕ
form_now (Ok form) = Ok (form.entries.items, form.table.now)
form_now (Err i) = Err i
