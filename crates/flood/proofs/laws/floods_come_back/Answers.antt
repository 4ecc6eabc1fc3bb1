use Rattle.flood.proofs.Envelopes.{flood_spelled}
use Rattle.flood.proofs.laws.floods_come_back.Goals as goal

pub returns : goal.returns
returns c = flood_spelled
