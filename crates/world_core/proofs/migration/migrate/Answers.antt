use Rattle.std.proofs.Common.{◌≡◌, [], ◌∷◌, ◌++◌, arith}
use Rattle.world_core.proofs.{Migrating.{keeps-next, leaves-next}, migration.migrate.Goals.{in-Ok+in_ok-keep-in-Ok, in-Err-NotEnabled}}
use Rattle.world_core.proofs.migration.migrate.Goals as goal

pub loop-event-preserved : goal.loop-event-preserved
loop-event-preserved c =
    let events = c.args.events.now in
    let kept = c.loop-event.kept in
    let place = c.loop-event.event-index in
    let event = c.event-item.result in
    elim c.match-step.branch [
      | in-Ok+in_ok-keep-in-Ok w ↦
          let added : c.match-step.kept ≡ kept ++ event ∷ [] =
          cc (w.kept-is, w.in_ok-keep-in-Ok.ensures) in (
            omega (arith, w.left_out-is, c.loop-event.invariant.0),
            keeps-next c.args.t.now events kept c.match-step.kept c.loop-event.left_out c.match-step.left_out
                place event
                c.loop-event.world c.step.new.self c.loop-event-test.true c.event-item.is added w.left_out-is
                c.loop-event.invariant.1 w.in-Ok.ensures.done,
          )
      | in-Err-NotEnabled w ↦
          let refused = w.in-Err-NotEnabled.ensures in
          let why = w.in-Err-NotEnabled.field-0-is in (
            omega (arith, w.left_out-is, c.loop-event.invariant.0),
            leaves-next c.args.t.now events kept c.match-step.kept c.loop-event.left_out c.match-step.left_out
                place event
                c.loop-event.world c.step.new.self c.loop-event-test.true c.event-item.is w.kept-is w.left_out-is
                c.loop-event.invariant.1 (refused.refused why) (refused.unmoved why),
          )
    ]
