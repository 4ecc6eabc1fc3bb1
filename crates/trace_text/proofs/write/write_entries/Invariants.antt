use Rattle.std.proofs.Common.{◌≤◌, map}
use Rattle.std.specs.{Io.KnownBytes.Appends, List.AllByRecursion}
use Rattle.world_merge.specs.Lines.{lent_line}
use Rattle.trace_text.specs.{Widths.EntryFits, Written.entry_lines}
use Rattle.trace_text.proofs.write.write_entries.Given as goal

abbrev pub invariant-loop-entry : goal.invariant-loop-entry
invariant-loop-entry g l =
    Appends (g.K.Sink.written l.fn.out) (g.K.Sink.written l.out) (entry_lines l.plan l.yielded)
    × (g.K.Sink.faults l.fn.out ≤ g.K.Sink.faults l.out) × AllByRecursion EntryFits (map lent_line l.yielded)
