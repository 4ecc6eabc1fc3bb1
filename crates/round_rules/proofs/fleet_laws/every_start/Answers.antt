use Rattle.round_rules.proofs.Beginning.{new-stations-stand}
use Rattle.round_rules.proofs.fleet_laws.every_start.Goals as goal

pub returns : goal.returns
returns c = new-stations-stand
