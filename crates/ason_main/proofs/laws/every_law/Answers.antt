use Rattle.ason_main.proofs.laws.every_law.Goals as goal

pub returns : goal.returns
returns c = record {
  possible = c.every_fleet.ensures.record;
  made = c.every_fleet.ensures.made;
  quiet = c.every_fleet.ensures.quiet;
  full = c.every_fleet.ensures.full;
  rounds = record { whole = c.every_command.ensures.rounds; cut = c.every_command.ensures.cuts };
  lawful = c.every_script.ensures.lawful;
  restored = c.every_script.ensures.restored;
}
