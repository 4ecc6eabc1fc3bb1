use Rattle.std.proofs.Common.{take}
use Rattle.world_core.proofs.Replaying.{HasRun}
use Rattle.world_core.proofs.replays.replay.Given as goal

abbrev pub invariant-loop-place : goal.invariant-loop-place
invariant-loop-place l = HasRun l.t (take l.place l.events) l.world
