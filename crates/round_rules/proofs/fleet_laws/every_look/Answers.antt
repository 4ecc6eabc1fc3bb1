use Rattle.round_rules.proofs.Looking.{known-have-begun, looks-stand, looks-tell}
use Rattle.round_rules.proofs.fleet_laws.every_look.Goals as goal

pub returns : goal.returns
returns c = record { stands = looks-stand; tells = looks-tell; begun = known-have-begun }
