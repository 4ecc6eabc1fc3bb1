use Rattle.fleet.proofs.{Made.{full-is-the-logs, standing-has-made, standing-is-a-record}, Quiet.quiet-is-the-worlds}
use Rattle.fleet.proofs.laws.every_fleet.Goals as goal

pub returns : goal.returns
returns c = record {
  «record» = standing-is-a-record;
  made = standing-has-made;
  full = full-is-the-logs;
  quiet = quiet-is-the-worlds c.every_merging.ensures.merges;
}
