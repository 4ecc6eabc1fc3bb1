use Rattle.world_merge.proofs.{Counting.every-line-is-merged, Owning.every-merging-merges}
use Rattle.world_merge.proofs.merging_laws.every_merging.Goals as goal

pub returns : goal.returns
returns c = record { merges = every-merging-merges; count = every-line-is-merged }
