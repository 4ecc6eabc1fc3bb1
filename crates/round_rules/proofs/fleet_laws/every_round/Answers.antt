use Rattle.round_rules.proofs.Rounds.{turns-make-a-round}
use Rattle.round_rules.proofs.fleet_laws.every_round.Goals as goal

pub returns : goal.returns
returns c = turns-make-a-round
