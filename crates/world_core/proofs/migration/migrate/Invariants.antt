use Rattle.std.proofs.Common.{◌≤◌, take}
use Rattle.world_core.proofs.Migrating.{HasKeptEvents}
use Rattle.world_core.proofs.migration.migrate.Given as goal

abbrev pub invariant-loop-event : goal.invariant-loop-event
invariant-loop-event l =
    (l.left_out ≤ l.event-index) × HasKeptEvents l.t (take l.event-index l.events) l.kept l.left_out l.world
