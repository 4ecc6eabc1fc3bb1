use Rattle.std.proofs.Common.{◌≡◌, ◌+◌, ◌-◌, None}
use Rattle.trace_text.specs.LinesRead.{entries_behind, lines_from}
use Rattle.trace_text.proofs.reading.read_lines.Given as goal

abbrev pub invariant-reading : goal.invariant-reading
invariant-reading l =
    entries_behind l.entries.items (lines_from l.plan l.lines l.last (l.count - l.i) (l.i + 1) l.rest)
    ≡ lines_from l.plan l.plan.lines None l.count 1 l.bytes
