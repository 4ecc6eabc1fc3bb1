use Rattle.world_merge.proofs.Stamps.{sent-now, sent-stays}
use Rattle.world_merge.proofs.laws.every_stamp.Goals as goal

pub returns : goal.returns
returns c = record { now = sent-now; later = sent-stays }
