use Rattle.station_rings.proofs.Joining.{joined-are-histories}
use Rattle.station_rings.proofs.laws.every_joining.Goals as goal

pub returns : goal.returns
returns c = joined-are-histories
