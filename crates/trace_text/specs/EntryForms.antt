-- What the line of a trace says: an entry, and the script lines that are left behind the one that it posts.
use Rattle.std.specs.{Prelude.{ℕ, ◌||◌, Bool, List, [], ◌∷◌, Option, Some, None, bytes_eq, codes, if◌then◌else◌}, Borrow.Bor, Char.is_ascii_lowercase, List.list_any}
use Rattle.ason_base.specs.{declared.commands.Command.Command, declared.commands.Entry.Entry, declared.commands.Event.Event, declared.ids.NodeId.NodeId}
use Rattle.ason_base.specs.declared.commands.Event.TheVariants as events
use Rattle.wire_buf.specs.Hex.{hex_pairs}
use Rattle.plan_reader.specs.{declared.lines.Line.Line, declared.lines.Line.TheVariants.{Post, Disturb, Noise, Settle, Wait, Show}, declared.plan.Plan.Plan, PlanTexts.{is_empty, node_named, word_up_to}}
use Rattle.trace_text.specs.{CommandText.command_text, Words.{behind_word, parted}}

-- Parts

-- a stamp, or the number of a frame
abbrev pub stamp_of : List ℕ → Option ℕ
stamp_of word = word_up_to 18446744073709551615 word

abbrev pub node_of : Plan → List ℕ → Option NodeId
node_of p name = node_named p.node_names p.topology.nodes name

abbrev pub has_lowercase : List ℕ → Bool
has_lowercase word = list_any is_ascii_lowercase word

-- the bytes of a noise: `-` is none, else two digits each with letters in upper case
abbrev pub noise_bytes : List ℕ → Option (List ℕ)
noise_bytes word =
    if bytes_eq word (codes "-") then Some []
    else if is_empty word || has_lowercase word then None
    else hex_pairs word

-- Events of a node

abbrev pub deliver : NodeId → Option NodeId → Option ℕ → Option Event
deliver n None number = None
deliver n (Some from) None = None
deliver n (Some from) (Some number) = Some (events.Deliver n from number)

-- `FROM NUMBER`
abbrev pub deliver_of : Plan → NodeId → Option (List ℕ × List ℕ) → Option Event
deliver_of p n None = None
deliver_of p n (Some (from, number)) = deliver n (node_of p from) (stamp_of number)

abbrev pub noise : NodeId → Option NodeId → Option (List ℕ) → Option Event
noise n None bytes = None
noise n (Some from) None = None
noise n (Some from) (Some bytes) = Some (events.Noise n from bytes)

-- `FROM HEX`
abbrev pub noise_of : Plan → NodeId → Option (List ℕ × List ℕ) → Option Event
noise_of p n None = None
noise_of p n (Some (from, hex)) = noise n (node_of p from) (noise_bytes hex)

abbrev pub event_with : Plan → NodeId → Option (List ℕ) → Option (List ℕ) → Option Event
event_with p n (Some delivered) heard = deliver_of p n (parted 32 delivered)
event_with p n None (Some heard) = noise_of p n (parted 32 heard)
event_with p n None None = None

-- `tick`, `desk`, `deliver FROM NUMBER` or `noise FROM HEX`
abbrev pub event_of : Plan → NodeId → List ℕ → Option Event
event_of p n text =
    if bytes_eq text (codes "tick") then Some (events.Tick n)
    else if bytes_eq text (codes "desk") then Some (events.Desk n)
    else event_with p n (behind_word (codes "deliver ") text) (behind_word (codes "noise ") text)

-- Entries

abbrev pub entry_at : ℕ → NodeId → Option Event → Option Entry
entry_at stamp n None = None
entry_at stamp n (Some event) = Some (record { stamp = stamp; node = Some n; event = event })

abbrev pub entry_with : Plan → ℕ → Option NodeId → List ℕ → Option Entry
entry_with p stamp None what = None
entry_with p stamp (Some n) what = entry_at stamp n (event_of p n what)

-- `NODE WHAT`
abbrev pub node_entry : Plan → ℕ → Option (List ℕ × List ℕ) → Option Entry
node_entry p stamp None = None
node_entry p stamp (Some (name, what)) = entry_with p stamp (node_of p name) what

-- the command of the next line that posts one, and the lines behind it
abbrev pub next_post : List Line → Option (Command × List Line)
next_post [] = None
next_post (Post c ∷ lines) = Some (c, lines)
next_post (Disturb d ∷ lines) = next_post lines
next_post (Noise from to bytes ∷ lines) = next_post lines
next_post (Settle r ∷ lines) = next_post lines
next_post (Wait n ∷ lines) = next_post lines
next_post (Show ∷ lines) = next_post lines

-- the text of the next line that posts a command is this one
abbrev pub post_entry : Plan → ℕ → List ℕ → Option (Command × List Line) → Option (Entry × List Line)
post_entry p stamp text None = None
post_entry p stamp text (Some (c, lines)) =
    if bytes_eq text (command_text p c)
    then Some (record { stamp = stamp; node = None; event = events.Post c }, lines)
    else None

abbrev pub with_lines : List Line → Option Entry → Option (Entry × List Line)
with_lines lines None = None
with_lines lines (Some e) = Some (e, lines)

abbrev pub entry_behind : Plan → List Line → ℕ → List ℕ → Option (List ℕ) → Option (Entry × List Line)
entry_behind p lines stamp rest (Some text) = post_entry p stamp text (next_post lines)
entry_behind p lines stamp rest None = with_lines lines (node_entry p stamp (parted 32 rest))

-- `NODE WHAT` or `- post LINE`
abbrev pub entry_of : Plan → List Line → ℕ → List ℕ → Option (Entry × List Line)
entry_of p lines stamp rest = entry_behind p lines stamp rest (behind_word (codes "- post ") rest)

abbrev pub if_stamped : Plan → List Line → List ℕ → Option ℕ → Option (Entry × List Line)
if_stamped p lines rest None = None
if_stamped p lines rest (Some stamp) = entry_of p lines stamp rest

abbrev pub said_in : Plan → List Line → Option (List ℕ × List ℕ) → Option (Entry × List Line)
said_in p lines None = None
said_in p lines (Some (stamp, rest)) = if_stamped p lines rest (stamp_of stamp)

-- `STAMP NODE WHAT` or `STAMP - post LINE`: the entry, and the script lines that are left; none where it is no such
-- line
abbrev pub said_of : Plan → List Line → List ℕ → Option (Entry × List Line)
said_of p lines line = said_in p lines (parted 32 line)

-- Views

abbrev pub post_now : Bor Command × Bor (List Line) → Command × List Line
post_now post = (post.0.now, post.1.now)

abbrev pub said_now : Entry × Bor (List Line) → Entry × List Line
said_now said = (said.0, said.1.now)
