use Rattle.std.proofs.Common.{[], subst}
use Rattle.std.specs.Prelude.{Err}
use Rattle.round_rules.specs.Records.{new_record}
use Rattle.fleet.specs.Views.{WatchesAt}
use Rattle.fleet.proofs.Watching.{watches-stand}
use Rattle.ason_main.proofs.{Rounded.new_rounded, Viewed.{not_watched, watched_view}, WatchReplies.watch_refused}
use Rattle.ason_main.proofs.watching.watch_node.Goals as goal

pub watch_fleet-requires-clause-new : goal.watch_fleet-requires-clause-new
watch_fleet-requires-clause-new g c lives bounds =
    watches-stand c.args.node c.watch.result c.args.fleet.now c.watch.new.self c.watch.ensures
    c.args.plan.now.topology [] new_record c.requires.new

pub watch_fleet-requires-clause-view : goal.watch_fleet-requires-clause-view
watch_fleet-requires-clause-view g c lives bounds =
    watched_view c.args.node c.in-Ok.viewer c.args.fleet.now c.watch.new.self
    (new_rounded c.args.plan.now.topology c.args.fleet.now c.requires.new) c.in-Ok.ensures

pub unreachable-requires : goal.unreachable-requires
unreachable-requires g c =
    not_watched c.args.node c.args.fleet.now c.watch.new.self c.requires.unwatched
    (subst (λ e. WatchesAt c.args.node (Err e) c.args.fleet.now c.watch.new.self) c.in-Err-Watched.field-0-is
    c.in-Err-Watched.ensures)

pub returns-in-Err-OutOfMemory : goal.returns-in-Err-OutOfMemory
returns-in-Err-OutOfMemory g c bs name plan named =
    let p = c.args.plan.now in
    watch_refused g.K.Sink.written g.K.Sink.faults bs name p c.args.pace c.args.node c.watch.new.self c.args.out.now
    plan named c.every_law.ensures
    (record {
      stands = watches-stand c.args.node c.watch.result c.args.fleet.now c.watch.new.self c.watch.ensures
          c.args.plan.now.topology [] new_record c.requires.new;
      postable = c.requires.postable;
    })
