use Rattle.std.proofs.Common.{[]}
use Rattle.round_rules.specs.Records.{new_record}
use Rattle.fleet.proofs.Watching.{watches-stand}
use Rattle.world_tests.proofs.views.viewer_after.Goals as goal

pub run_plan-requires-clause-new : goal.run_plan-requires-clause-new
run_plan-requires-clause-new g c lives bounds =
    watches-stand _ c.watch.result c.args.fleet.now c.watch.new.self c.watch.ensures c.args.plan.now.topology []
    new_record c.requires.new
