use Rattle.hop_reliable.proofs.Intervals.{rhythm}
use Rattle.hop_reliable.proofs.laws.rhythm.Goals as goal

pub returns : goal.returns
returns c = rhythm
