-- Lines that are written one after the other are read.
use Rattle.std.proofs.Common.{◌≡◌, ◌∙◌, ◌+◌, ℕ, suc, true, List, [], ◌∷◌, ◌++◌, Option, Some, None, codes, length, refl, ap, arith, append_assoc}
use Rattle.std.specs.Fmt.{decimal}
use Rattle.ason_base.specs.{declared.commands.Entry.Entry, declared.commands.Event.Event, declared.commands.Event.TheVariants.{Deliver, Noise, Tick, Desk, Post}, declared.ids.NodeId.NodeId}
use Rattle.plan_reader.specs.{declared.lines.Line.Line, declared.plan.Plan.Plan}
use Rattle.table_text.specs.TableText.{node_name}
use Rattle.trace_text.specs.{EntryLines.{bytes_text, entry_line, event_text, node_text}, LinesRead.{LinesRead, NextEntry, entries_behind, if_rises, lines_from, next_entry, next_in, or_wrong, place_of, rises}, RoundTrip.{AllLinesAreRead, CanBeTold, HasItsName, Says, lacks_byte, line_text}, TraceText.entries_text, declared.reading.Place.Place}
use Rattle.trace_text.proofs.{BytesTold.bytes_lack, Decimals.lacks_low, LinesTold.line_read, NamesTold.name_lacks, TextsParted.{lacks_both, parted_there}}

-- No newline stands in a line

node_lacks : (p : Plan) (node : Option NodeId) → HasItsName p node → lacks_byte 10 (node_text p node) ≡ true
node_lacks p None named = refl
node_lacks p (Some n) named = name_lacks 10 (node_name p n) (omega arith) named.name

event_lacks : (p : Plan) (lines : List Line) (node : Option NodeId) (event : Event) (left : List Line) →
    Says p lines node event left → lacks_byte 10 (event_text p event) ≡ true
event_lacks p lines (Some n) (Deliver to from number) left (is, other, small, leaves) =
    let name = node_name p from in
    lacks_both 10 (name ++ codes " ") (decimal number)
    (lacks_both 10 name (codes " ") (name_lacks 10 name (omega arith) other.name) refl)
    (lacks_low 10 number (omega arith) small)
event_lacks p lines (Some n) (Noise to from bytes) left (is, other, small, leaves) =
    let name = node_name p from in
    lacks_both 10 (name ++ codes " ") (bytes_text bytes)
    (lacks_both 10 name (codes " ") (name_lacks 10 name (omega arith) other.name) refl) (bytes_lack bytes small)
event_lacks p lines (Some n) (Tick m) left says = refl
event_lacks p lines (Some n) (Desk m) left says = refl
event_lacks p lines (Some n) (Post c) left says = absurd says
event_lacks p lines None (Deliver to from number) left says = absurd says
event_lacks p lines None (Noise to from bytes) left says = absurd says
event_lacks p lines None (Tick m) left says = refl
event_lacks p lines None (Desk m) left says = refl
event_lacks p lines None (Post c) left says = says.1

line_lacks : (p : Plan) (lines : List Line) (e : Entry) (left : List Line) → CanBeTold p lines e left →
    lacks_byte 10 (line_text p e) ≡ true
line_lacks p lines e left told =
    lacks_both 10 (decimal e.stamp) (32 ∷ (node_text p e.node ++ 32 ∷ event_text p e.event))
    (lacks_low 10 e.stamp (omega arith) told.stamp)
    (lacks_both 10 (node_text p e.node) (32 ∷ event_text p e.event) (node_lacks p e.node told.node)
    (event_lacks p lines e.node e.event left told.says))

-- The next line

line_then : (p : Plan) (e : Entry) (rest : List ℕ) → entry_line p e ++ rest ≡ line_text p e ++ 10 ∷ rest
line_then p e rest = simp append_assoc refl

next_read : (p : Plan) (lines : List Line) (last : Option Place) (e : Entry) (left : List Line) (rest : List ℕ) →
    CanBeTold p lines e left → rises last (place_of e) ≡ true →
    next_entry p lines last (entry_line p e ++ rest) ≡ Some (record { entry = e; lines = left; rest = rest })
next_read p lines last e left rest told above =
    ap (next_entry p lines last) (line_then p e rest)
    ∙ (ap (next_in p lines last) (parted_there 10 (line_text p e) rest (line_lacks p lines e left told))
    ∙ (ap (if_rises last rest) (line_read p lines e left told) ∙ rw above refl))

-- All lines

pub all_read : AllLinesAreRead
all_read p lines last [] i rest told = refl
all_read p lines last (e ∷ es) i rest (left, told, above, more) =
    let others : List ℕ = entries_text p es ++ rest in
    let bytes : List ℕ = entries_text p (e ∷ es) ++ rest in
    let on = λ (next : NextEntry). lines_from p next.lines (Some (place_of next.entry)) (length es) (i + 1) next.rest in
    let next : next_entry p lines last bytes ≡ Some (record { entry = e; lines = left; rest = others }) =
    ap (next_entry p lines last) (append_assoc (entry_line p e) (entries_text p es) rest)
    ∙ next_read p lines last e left others told above in
    count_of e es (λ (n : ℕ). lines_from p lines last n i bytes)
    ∙ (ap (or_wrong i bytes on) next
    ∙ ap (entries_behind (e ∷ [])) (all_read p left (Some (place_of e)) es (i + 1) rest more))
  where
    count_of : (e : Entry) (es : List Entry) (f : ℕ → LinesRead) → f (length (e ∷ es)) ≡ f (suc (length es))
    count_of e es f = let more : length (e ∷ es) ≡ suc (length es) = omega arith in ap f more
