use Rattle.std.proofs.Common.{◌≡◌, map, take}
use Rattle.trace_frames.proofs.events_of.Given as goal

abbrev pub invariant-loop-entry : goal.invariant-loop-entry
invariant-loop-entry l = l.events.items ≡ map (λ e. e.event) (take l.entry-index l.entries)
