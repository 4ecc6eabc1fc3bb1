use Rattle.std.proofs.Common.{◌≡◌, ◌+◌}
use Rattle.world_core.proofs.Replaying.{first-disabled, run-next}
use Rattle.world_core.proofs.replays.replay.Goals as goal

pub returns-in-Err-NotEnabled-clause-not_run : goal.returns-in-Err-NotEnabled-clause-not_run
returns-in-Err-NotEnabled-clause-not_run c i e =
    let number : c.loop-place.place + 1 ≡ i = cc (e) in
    first-disabled c.args.t.now c.args.events.now c.loop-place.place c.index-events-place.result c.loop-place.world i
    c.loop-place-test.true c.index-events-place.is number c.loop-place.invariant
    (c.in-Err-NotEnabled.ensures.refused c.in-Err-NotEnabled.field-0-is)

pub loop-place-preserved : goal.loop-place-preserved
loop-place-preserved c =
    run-next c.args.t.now c.args.events.now c.loop-place.place c.index-events-place.result c.loop-place.world
    c.step.new.self
    c.loop-place-test.true c.index-events-place.is c.loop-place.invariant c.in-Ok-step.ensures.done
