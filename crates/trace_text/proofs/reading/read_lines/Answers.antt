use Rattle.std.proofs.Common.{◌≡◌, ◌∙◌, ◌+◌, ◌-◌, ◌∷◌, ◌++◌, [], None, Some, ap, sym}
use Rattle.std.specs.Option.{option_map}
use Rattle.trace_text.specs.LinesRead.{NextEntry, entries_behind, lines_from, next_entry_now, place_of}
use Rattle.trace_text.proofs.ReadOn.{at_wrong, read_on}
use Rattle.trace_text.proofs.reading.read_lines.Goals as goal

pub returns-in-None : goal.returns-in-None
returns-in-None c =
    let p = c.args.plan.now in
    at_wrong (lines_from p p.lines None c.args.count 1 c.args.bytes.now) p c.reading.lines.now c.reading.last
    c.args.count c.reading.i c.reading.rest.now c.reading.entries.items c.reading-test.true
    (sym c.in_ok-next_entry.ensures ∙ ap (option_map next_entry_now) c.in-None.is) c.reading.invariant

pub reading-preserved : goal.reading-preserved
reading-preserved c =
    let p = c.args.plan.now in
    let e = c.in-Some.entry in
    let next : NextEntry = record { entry = e; lines = c.in-Some.left.now; rest = c.in-Some.after.now } in
    let longer : c.push.new.self.items ≡ c.reading.entries.items ++ e ∷ [] = c.in_ok-push-in-Some.ensures.items in
    let place : c.place_of.result ≡ place_of e = c.place_of.ensures in
    (λ j. entries_behind (longer j) (lines_from p next.lines (Some (place j)) (c.args.count - (c.reading.i + 1))
    (c.reading.i + 1 + 1) next.rest))
    ∙ read_on (lines_from p p.lines None c.args.count 1 c.args.bytes.now) p c.reading.lines.now c.reading.last
    c.args.count c.reading.i c.reading.rest.now c.reading.entries.items next c.reading-test.true
    (sym c.in_ok-next_entry.ensures ∙ ap (option_map next_entry_now) c.in-Some.is) c.reading.invariant
