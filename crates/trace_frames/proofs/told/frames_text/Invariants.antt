use Rattle.std.proofs.Common.{◌≡◌, flat_map, take}
use Rattle.trace_frames.specs.Told.{frame_line}
use Rattle.trace_frames.proofs.told.frames_text.Given as goal

abbrev pub invariant-loop-event : goal.invariant-loop-event
invariant-loop-event l = l.text.items ≡ flat_map (frame_line l.plan l.world) (take l.event-index l.events)
