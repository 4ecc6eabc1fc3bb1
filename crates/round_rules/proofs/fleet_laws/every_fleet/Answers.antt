use Rattle.round_rules.proofs.Joined.{standing-is-a-record}
use Rattle.round_rules.proofs.fleet_laws.every_fleet.Goals as goal

pub returns : goal.returns
returns c = standing-is-a-record
