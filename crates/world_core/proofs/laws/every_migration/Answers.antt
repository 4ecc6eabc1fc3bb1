use Rattle.world_core.proofs.Migrating.{all-kept, kept-run, one-kept, refused-left, run-kept}
use Rattle.world_core.proofs.laws.every_migration.Goals as goal

pub returns : goal.returns
returns c = record {
  run = kept-run;
  none = run-kept;
  all = all-kept;
  refused = refused-left;
  one = one-kept;
}
