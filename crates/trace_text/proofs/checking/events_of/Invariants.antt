use Rattle.std.proofs.Common.{◌≡◌}
use Rattle.world_merge.specs.Merges.{events_of}
use Rattle.trace_text.proofs.checking.events_of.Given as goal

abbrev pub invariant-loop-entry : goal.invariant-loop-entry
invariant-loop-entry l = l.events.items ≡ events_of l.yielded
